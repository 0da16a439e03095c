use Rattle.std.proofs.Common.{length}
use Rattle.board_checks.proofs.buses.+some_beside.Given as goal

abbrev pub decreases-some_beside : goal.decreases-some_beside
decreases-some_beside l = length l.bridges.now
