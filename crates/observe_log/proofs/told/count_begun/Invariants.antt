use Rattle.observe_log.specs.Checks.{AreBegun}
use Rattle.observe_log.proofs.told.count_begun.Given as goal

abbrev pub invariant-loop-event : goal.invariant-loop-event
invariant-loop-event l = AreBegun l.events l.event-index l.turns
