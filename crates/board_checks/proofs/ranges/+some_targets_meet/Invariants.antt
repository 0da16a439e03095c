use Rattle.std.proofs.Common.{length}
use Rattle.board_checks.proofs.ranges.+some_targets_meet.Given as goal

abbrev pub decreases-some_targets_meet : goal.decreases-some_targets_meet
decreases-some_targets_meet l = length l.targets.now
