use Rattle.std.proofs.Common.{◌≡◌, ◌≤◌, length}
use Rattle.board_model.specs.Limits.{most_dwords}
use Rattle.board_statements.specs.Masters.{data_words, burst_words}
use Rattle.board_statements.proofs.BurstLemmas.{finish}
use Rattle.board_statements.proofs.masters.burst_words.Given as goal

-- what is kept of the phases so far and of those that follow
abbrev pub invariant-loop-words : goal.invariant-loop-words
invariant-loop-words l = record {
  few : length l.phases ≤ most_dwords;
  kept : finish l.phases l.too_many (data_words l.words) ≡ burst_words l.fn.words;
}

abbrev pub decreases-loop-words : goal.decreases-loop-words
decreases-loop-words l = length l.words
