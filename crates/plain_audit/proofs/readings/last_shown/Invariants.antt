use Rattle.std.proofs.Common.{◌≡◌, take}
use Rattle.history_model.specs.Runs.{history_of}
use Rattle.plain_audit.specs.Places.{last_shown}
use Rattle.plain_audit.proofs.readings.last_shown.Given as goal

-- what it last read in the events so far
abbrev pub invariant-loop-index : goal.invariant-loop-index
invariant-loop-index l = l.shown ≡ last_shown l.board l.places.write l.places.since (history_of (take l.index l.events)) l.op
