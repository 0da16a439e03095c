use Rattle.std.proofs.Common.{length}
use Rattle.observe_log.proofs.boards.+are_raised.Given as goal

abbrev pub decreases-are_raised : goal.decreases-are_raised
decreases-are_raised l = length l.seen.now
