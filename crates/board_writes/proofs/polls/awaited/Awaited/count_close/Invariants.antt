use Rattle.std.proofs.Common.{◌≡◌, ◌+◌, ◌-◌, ◌≤◌, drop, length}
use Rattle.safe_model.specs.Raisers.{is_met_by}
use Rattle.board_writes.proofs.ScanLemmas.{before_first}
use Rattle.board_writes.proofs.polls.awaited.Awaited.count_close.Given as goal

-- so many do not meet it
abbrev pub invariant-loop-count : goal.invariant-loop-count
invariant-loop-count l = record {
  within : l.count ≤ length l.values;
  so_far : l.count + before_first (is_met_by l.self.want) (drop l.count l.values) ≡ before_first (is_met_by l.self.want) l.values;
}

abbrev pub decreases-loop-count : goal.decreases-loop-count
decreases-loop-count l = length l.values - l.count
