use Rattle.std.proofs.Common.{length}
use Rattle.observe_log.proofs.boards.+same_ranges.Given as goal

abbrev pub decreases-same_ranges : goal.decreases-same_ranges
decreases-same_ranges l = length l.one.now
