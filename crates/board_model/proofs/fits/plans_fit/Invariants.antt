use Rattle.std.proofs.Common.{take}
use Rattle.std.specs.List.{AllByRecursion}
use Rattle.board_model.specs.Fits.{PlannedFits}
use Rattle.board_model.proofs.fits.plans_fit.Given as goal

-- the plans so far
abbrev pub invariant-loop-planned : goal.invariant-loop-planned
invariant-loop-planned l = AllByRecursion PlannedFits (take l.planned-index l.plans)
