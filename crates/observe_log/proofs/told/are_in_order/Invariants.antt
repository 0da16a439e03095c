use Rattle.observe_log.specs.Loops.{StandSo}
use Rattle.observe_log.proofs.told.are_in_order.Given as goal

abbrev pub invariant-loop-place : goal.invariant-loop-place
invariant-loop-place l = StandSo l.seen l.lines l.place-index l.last l.latest_start
