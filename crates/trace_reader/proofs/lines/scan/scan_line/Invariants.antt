use Rattle.std.proofs.Common.{◌-◌, ◌≤◌, length, map}
use Rattle.arrayvec.specs.ArrayVec.{array_vec_len}
use Rattle.trace_reader.proofs.lines.ScanLemmas.{Scans}
use Rattle.trace_reader.proofs.lines.scan.scan_line.Given as goal

-- the words so far and what is left are the first line
abbrev pub invariant-loop-words : goal.invariant-loop-words
invariant-loop-words l = record {
  within : length l.rest ≤ length l.text;
  so_far : Scans l.text l.rest (map (λ word. word.now) l.words.items);
}

abbrev pub decreases-loop-words : goal.decreases-loop-words
decreases-loop-words l = 6 - array_vec_len l.words
