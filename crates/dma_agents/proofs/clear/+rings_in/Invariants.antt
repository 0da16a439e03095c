use Rattle.std.proofs.Common.{length}
use Rattle.dma_agents.proofs.clear.+rings_in.Given as goal

abbrev pub decreases-rings_in : goal.decreases-rings_in
decreases-rings_in l = length l.phases.now
