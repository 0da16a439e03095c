use Rattle.draw_journeys.specs.Kept.{IsListed}
use Rattle.draw_journeys.proofs.FollowLemmas.{SoFar}
use Rattle.draw_journeys.proofs.follow.journeys_of.Given as goal

-- the journeys of the events so far, and what is kept of them
abbrev pub invariant-loop-before : goal.invariant-loop-before
invariant-loop-before l = record {
  so : SoFar l.tree l.events l.before l.travel.journeys.items l.kept;
  listed : IsListed l.travel.journeys.items l.travel.under_way.items;
}
