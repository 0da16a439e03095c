use Rattle.std.proofs.Common.{◌≡◌, take}
use Rattle.bus_core.proofs.steps.phases_from.Given as goal

-- the data phases so far
abbrev pub invariant-loop-phase : goal.invariant-loop-phase
invariant-loop-phase l = l.left ≡ take l.phase-index l.phase-items
