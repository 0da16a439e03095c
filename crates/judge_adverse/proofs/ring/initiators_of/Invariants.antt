use Rattle.std.proofs.Common.{◌≡◌}
use Rattle.judge_adverse.specs.Turns.{ring_below}
use Rattle.judge_adverse.proofs.ring.initiators_of.Given as goal

-- those of the buses so far
abbrev pub invariant-loop-bus : goal.invariant-loop-bus
invariant-loop-bus l = l.all.items ≡ ring_below l.bus l.board
