use Rattle.std.proofs.Common.{length}
use Rattle.dma_agents.proofs.clear.+opens_otherwise.Given as goal

abbrev pub decreases-opens_otherwise : goal.decreases-opens_otherwise
decreases-opens_otherwise l = length l.targets.now
