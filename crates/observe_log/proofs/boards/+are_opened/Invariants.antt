use Rattle.std.proofs.Common.{length}
use Rattle.observe_log.proofs.boards.+are_opened.Given as goal

abbrev pub decreases-are_opened : goal.decreases-are_opened
decreases-are_opened l = length l.seen.now
