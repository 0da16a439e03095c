use Rattle.std.proofs.Common.{length}
use Rattle.board_model.proofs.device.+base_register.Given as goal

abbrev pub decreases-base_register : goal.decreases-base_register
decreases-base_register l = length l.ranges.now
