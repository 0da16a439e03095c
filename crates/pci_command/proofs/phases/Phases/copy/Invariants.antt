use Rattle.std.proofs.Common.{◌≡◌, take}
use Rattle.pci_command.proofs.phases.Phases.copy.Given as goal

-- the phases so far
abbrev pub invariant-loop-phase : goal.invariant-loop-phase
invariant-loop-phase l = l.copied ≡ take l.phase-index l.phase-items
