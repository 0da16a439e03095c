use Rattle.std.proofs.Common.{length}
use Rattle.import_targets.proofs.devices.push_devices.Given as goal

abbrev pub decreases-loop-left : goal.decreases-loop-left
decreases-loop-left l = length l.left
