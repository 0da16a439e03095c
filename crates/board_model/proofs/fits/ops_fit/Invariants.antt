use Rattle.std.proofs.Common.{take}
use Rattle.std.specs.List.{AllByRecursion}
use Rattle.board_model.specs.Fits.{OpFits}
use Rattle.board_model.proofs.fits.ops_fit.Given as goal

-- the operations so far
abbrev pub invariant-loop-op : goal.invariant-loop-op
invariant-loop-op l = AllByRecursion OpFits (take l.op-index l.ops)
