use Rattle.std.proofs.Common.{take}
use Rattle.std.specs.List.{AllByRecursion}
use Rattle.board_model.specs.Fits.{PhaseFits}
use Rattle.board_model.proofs.fits.phases_fit.Given as goal

-- the data phases so far
abbrev pub invariant-loop-phase : goal.invariant-loop-phase
invariant-loop-phase l = AllByRecursion PhaseFits (take l.phase-index l.phases)
