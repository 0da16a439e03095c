use Rattle.std.proofs.Common.{◌≡◌, ◌≤◌, length, take}
use Rattle.safe_model.specs.Raisers.{is_met_by}
use Rattle.board_writes.specs.Stretches.{count_to_last}
use Rattle.board_writes.proofs.polls.awaited.Awaited.count_close_to_last.Given as goal

-- none of those behind so many meets it
abbrev pub invariant-loop-count : goal.invariant-loop-count
invariant-loop-count l = record {
  within : l.count ≤ length l.values;
  so_far : count_to_last (is_met_by l.self.want) l.values ≡ count_to_last (is_met_by l.self.want) (take l.count l.values);
}

abbrev pub decreases-loop-count : goal.decreases-loop-count
decreases-loop-count l = l.count
