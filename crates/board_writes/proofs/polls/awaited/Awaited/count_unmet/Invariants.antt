use Rattle.std.proofs.Common.{◌≡◌, ◌+◌, ◌-◌, ◌≤◌, length}
use Rattle.safe_model.specs.Raisers.{is_met_by}
use Rattle.board_writes.proofs.ScanLemmas.{before_first}
use Rattle.board_writes.proofs.polls.awaited.Awaited.count_unmet.Given as goal

-- none of those so far meets it
abbrev pub invariant-loop-left : goal.invariant-loop-left
invariant-loop-left l = record {
  within : length l.left ≤ length l.values;
  so_far : (length l.values - length l.left) + before_first (is_met_by l.self.want) l.left ≡ before_first (is_met_by l.self.want) l.values;
}

abbrev pub decreases-loop-left : goal.decreases-loop-left
decreases-loop-left l = length l.left
