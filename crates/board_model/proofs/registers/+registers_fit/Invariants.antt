use Rattle.std.proofs.Common.{length}
use Rattle.board_model.proofs.registers.+registers_fit.Given as goal

abbrev pub decreases-registers_fit : goal.decreases-registers_fit
decreases-registers_fit l = length l.ranges.now
