use Rattle.std.proofs.Common.{◌≡◌, ◌-◌, ◌++◌, true, map}
use Rattle.arrayvec.specs.ArrayVec.{array_vec_len}
use Rattle.trace_reader.specs.lines.Lines.{is_regular, pieces_of}
use Rattle.trace_reader.proofs.lines.cut.words_of.Given as goal

-- the words so far and what is left are the line
abbrev pub invariant-loop-words : goal.invariant-loop-words
invariant-loop-words l = record {
  whole : map (λ word. word.now) l.words.items ++ pieces_of l.rest ≡ pieces_of l.line;
  regular : is_regular (map (λ word. word.now) l.words.items) ≡ true;
}

abbrev pub decreases-loop-words : goal.decreases-loop-words
decreases-loop-words l = 6 - array_vec_len l.words
