use Rattle.std.proofs.Common.{◌≡◌, [], drop}
use Rattle.draw_items.specs.Waits.{waits_after}
use Rattle.draw_items.specs.Kept.{TellsPlaces}
use Rattle.draw_items.proofs.waits.waits_of.Given as goal

-- what was presented so far, and what is to come
abbrev pub invariant-loop-before : goal.invariant-loop-before
invariant-loop-before l = record {
  so : waits_after l.before (drop l.before l.events) l.waits.items ≡ waits_after 0 l.events [];
  places : TellsPlaces l.waits.items l.places;
}
