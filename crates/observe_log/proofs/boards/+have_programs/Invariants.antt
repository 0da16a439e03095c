use Rattle.std.proofs.Common.{length}
use Rattle.observe_log.proofs.boards.+have_programs.Given as goal

abbrev pub decreases-have_programs : goal.decreases-have_programs
decreases-have_programs l = length l.seen.now
