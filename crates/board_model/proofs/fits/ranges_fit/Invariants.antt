use Rattle.std.proofs.Common.{take}
use Rattle.std.specs.List.{AllByRecursion}
use Rattle.board_model.specs.Fits.{RangeFits}
use Rattle.board_model.proofs.fits.ranges_fit.Given as goal

-- the ranges so far
abbrev pub invariant-loop-range : goal.invariant-loop-range
invariant-loop-range l = AllByRecursion RangeFits (take l.range-index l.ranges)
