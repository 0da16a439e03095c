use Rattle.std.proofs.Common.{◌≡◌, take}
use Rattle.history_model.specs.Runs.{history_of}
use Rattle.law_fresh.specs.Aware.{aware_of}
use Rattle.plain_audit.specs.Places.{ArePlaces}
use Rattle.plain_audit.proofs.places.Places.after.Given as goal

-- the places say who knows after the events so far
abbrev pub invariant-loop-index : goal.invariant-loop-index
invariant-loop-index l =
    (l.places.write ≡ l.fn.write) × ArePlaces (aware_of l.board l.fn.write (history_of (take l.index l.events))) l.places.since
