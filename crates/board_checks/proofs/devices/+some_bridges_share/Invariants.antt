use Rattle.std.proofs.Common.{length}
use Rattle.board_checks.proofs.devices.+some_bridges_share.Given as goal

abbrev pub decreases-some_bridges_share : goal.decreases-some_bridges_share
decreases-some_bridges_share l = length l.bridges.now
