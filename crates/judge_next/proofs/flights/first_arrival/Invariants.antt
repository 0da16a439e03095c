use Rattle.std.proofs.Common.{◌≡◌, drop}
use Rattle.history_model.specs.Next.{first_in}
use Rattle.judge_next.specs.Now.{arrival_now}
use Rattle.judge_next.proofs.flights.first_arrival.Given as goal

-- the first of all is the first of those to come
abbrev pub invariant-loop-lane : goal.invariant-loop-lane
invariant-loop-lane l = first_in (arrival_now l.board l.kept) (drop l.lane-index l.lanes) ≡ first_in (arrival_now l.board l.kept) l.lanes
