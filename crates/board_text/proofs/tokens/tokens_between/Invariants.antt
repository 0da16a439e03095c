use Rattle.std.proofs.Common.{◌≡◌, ◌+◌, ◌≤◌, ◌-◌, ◌++◌, length}
use Rattle.std.specs.List.{slice_split}
use Rattle.board_text.specs.Tokens.{is_separator, placed, words_in}
use Rattle.board_text.proofs.tokens.tokens_between.Given as goal

-- the tokens so far, and then those of the rest
abbrev pub invariant-loop-word : goal.invariant-loop-word
invariant-loop-word l = record {
  within : length l.rest ≤ length l.text;
  tokens : l.tokens.items ++ placed (l.start + (length l.text - length l.rest)) (slice_split is_separator l.rest) ≡ placed l.start (slice_split is_separator l.text);
}

abbrev pub decreases-loop-word : goal.decreases-loop-word
decreases-loop-word l = length (words_in l.rest)
