use Rattle.std.proofs.Common.{◌≡◌, drop}
use Rattle.draw_journeys.specs.Steps.{moves_on}
use Rattle.draw_journeys.specs.Kept.{IsListed}
use Rattle.draw_journeys.proofs.travel.Travel.follow.Given as goal

-- the moves to come make of the journeys what all make of those at first
abbrev pub invariant-loop-one : goal.invariant-loop-one
invariant-loop-one l = record {
  now : moves_on l.n (drop l.one-index l.moves) l.self.journeys.items ≡ moves_on l.n l.moves l.fn.self.journeys.items;
  listed : IsListed l.self.journeys.items l.self.under_way.items;
}
