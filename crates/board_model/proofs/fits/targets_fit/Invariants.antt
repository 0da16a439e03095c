use Rattle.std.proofs.Common.{take}
use Rattle.std.specs.List.{AllByRecursion}
use Rattle.board_model.specs.Fits.{DetailsFit}
use Rattle.board_model.proofs.fits.targets_fit.Given as goal

-- the targets so far
abbrev pub invariant-loop-target : goal.invariant-loop-target
invariant-loop-target l = AllByRecursion DetailsFit (take l.target-index l.targets)
