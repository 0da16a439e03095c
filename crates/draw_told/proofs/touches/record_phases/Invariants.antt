use Rattle.std.proofs.Common.{cond, []}
use Rattle.pci_command.specs.Same.{same_op}
use Rattle.draw_told.specs.Kept.{touches_from, Adds}
use Rattle.draw_told.proofs.touches.record_phases.Given as goal

-- the data phases so far
abbrev pub invariant-loop-phase : goal.invariant-loop-phase
invariant-loop-phase l = Adds l.initial.writes l.writes (λ o. cond (same_op l.op o) (touches_from l.n l.first.target l.first.space l.first.address l.phase) [])
