use Rattle.std.proofs.Common.{take}
use Rattle.draw_items.specs.Kept.{TellsTries}
use Rattle.draw_items.proofs.tries.tries_of.Given as goal

-- what was named so far
abbrev pub invariant-loop-event : goal.invariant-loop-event
invariant-loop-event l = TellsTries (take l.event-index l.events) l.tries
