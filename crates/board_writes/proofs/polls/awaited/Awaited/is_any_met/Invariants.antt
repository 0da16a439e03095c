use Rattle.std.proofs.Common.{◌≡◌, ◌||◌, drop}
use Rattle.std.specs.List.{list_any}
use Rattle.safe_model.specs.Raisers.{is_met_by}
use Rattle.board_writes.proofs.polls.awaited.Awaited.is_any_met.Given as goal

-- one so far, or one of those that are left
abbrev pub invariant-loop-value : goal.invariant-loop-value
invariant-loop-value l = (l.met || list_any (is_met_by l.self.want) (drop l.value-index l.values)) ≡ list_any (is_met_by l.self.want) l.values
