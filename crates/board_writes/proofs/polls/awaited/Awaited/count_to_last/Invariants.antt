use Rattle.std.proofs.Common.{◌≡◌, ◌≤◌, length}
use Rattle.safe_model.specs.Raisers.{is_met_by}
use Rattle.board_writes.specs.Stretches.{count_to_last}
use Rattle.board_writes.proofs.polls.awaited.Awaited.count_to_last.Given as goal

-- none of those behind these meets it
abbrev pub invariant-loop-left : goal.invariant-loop-left
invariant-loop-left l = record {
  within : length l.left ≤ length l.values;
  so_far : count_to_last (is_met_by l.self.want) l.values ≡ count_to_last (is_met_by l.self.want) l.left;
}

abbrev pub decreases-loop-left : goal.decreases-loop-left
decreases-loop-left l = length l.left
