use Rattle.std.proofs.Common.{◌≡◌, take}
use Rattle.history_model.specs.Knowledge.{has_landed}
use Rattle.history_model.specs.Runs.{history_of}
use Rattle.plain_audit.proofs.landings.has_landed.Given as goal

-- whether it landed in the events so far
abbrev pub invariant-loop-event : goal.invariant-loop-event
invariant-loop-event l = l.landed ≡ has_landed (history_of (take l.event-index l.before)) l.op
