use Rattle.std.proofs.Common.{length}
use Rattle.observe_log.proofs.boards.+open_so.Given as goal

abbrev pub decreases-open_so : goal.decreases-open_so
decreases-open_so l = length l.seen.now
