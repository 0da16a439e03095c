use Rattle.std.proofs.Common.{take}
use Rattle.std.specs.List.{AllByRecursion}
use Rattle.board_model.specs.Fits.{ProgramFits}
use Rattle.board_model.proofs.fits.masters_fit.Given as goal

-- the masters so far
abbrev pub invariant-loop-master : goal.invariant-loop-master
invariant-loop-master l = AllByRecursion ProgramFits (take l.master-index l.masters)
