use Rattle.std.proofs.Common.{vec_len}
use Rattle.safe_table.proofs.order.Walk.next_place.Given as goal

-- each turn takes a step off
abbrev pub decreases-loop-step : goal.decreases-loop-step
decreases-loop-step l = vec_len l.self.steps
