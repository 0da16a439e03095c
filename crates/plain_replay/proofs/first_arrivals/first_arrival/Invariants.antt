use Rattle.std.proofs.Common.{◌≡◌, None}
use Rattle.history_model.specs.Runs.{history_of}
use Rattle.history_model.specs.Next.{first_below, first_lane, arrival_at}
use Rattle.plain_replay.proofs.first_arrivals.first_arrival.Given as goal

-- nothing on the buses so far
abbrev pub invariant-loop-bus : goal.invariant-loop-bus
invariant-loop-bus l = first_below l.bus (λ bus. first_lane l.board bus (arrival_at l.board (history_of l.before))) ≡ None
