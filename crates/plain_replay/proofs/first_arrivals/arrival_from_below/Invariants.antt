use Rattle.std.proofs.Common.{◌≡◌, None}
use Rattle.history_model.specs.Runs.{history_of}
use Rattle.history_model.specs.Next.{first_below, up_from, given_on, arrival_at}
use Rattle.plain_replay.proofs.first_arrivals.arrival_from_below.Given as goal

-- nothing from the bridges so far
abbrev pub invariant-loop-child : goal.invariant-loop-child
invariant-loop-child l = first_below l.child (λ child. given_on l.board l.bus (arrival_at l.board (history_of l.before)) (up_from child)) ≡ None
