use Rattle.std.proofs.Common.{length}
use Rattle.board_checks.proofs.ranges.+some_ranges_meet.Given as goal

abbrev pub decreases-some_ranges_meet : goal.decreases-some_ranges_meet
decreases-some_ranges_meet l = length l.ranges.now
