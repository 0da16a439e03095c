use Rattle.std.proofs.Common.{length}
use Rattle.board_checks.proofs.devices.+some_targets_share.Given as goal

abbrev pub decreases-some_targets_share : goal.decreases-some_targets_share
decreases-some_targets_share l = length l.targets.now
