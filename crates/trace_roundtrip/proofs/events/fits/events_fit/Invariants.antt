use Rattle.std.proofs.Common.{take}
use Rattle.std.specs.List.{AllByRecursion}
use Rattle.trace_roundtrip.specs.events.Fits.{EventFits}
use Rattle.trace_roundtrip.proofs.events.fits.events_fit.Given as goal

-- the events so far
abbrev pub invariant-loop-event : goal.invariant-loop-event
invariant-loop-event l = AllByRecursion EventFits (take l.event-index l.events)
