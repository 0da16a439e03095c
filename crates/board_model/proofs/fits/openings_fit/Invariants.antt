use Rattle.std.proofs.Common.{take}
use Rattle.std.specs.List.{AllByRecursion}
use Rattle.board_model.specs.Fits.{OpeningFits}
use Rattle.board_model.proofs.fits.openings_fit.Given as goal

-- the openings so far
abbrev pub invariant-loop-opening : goal.invariant-loop-opening
invariant-loop-opening l = AllByRecursion OpeningFits (take l.opening-index l.openings)
