use Rattle.std.proofs.Common.{◌≡◌}
use Rattle.judge_next.specs.Lines.{lanes_below}
use Rattle.judge_next.proofs.flights.all_lanes.Given as goal

-- those that end on the buses so far
abbrev pub invariant-loop-bus : goal.invariant-loop-bus
invariant-loop-bus l = l.lanes.items ≡ lanes_below l.bus l.board
