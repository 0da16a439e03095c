use Rattle.std.proofs.Common.{length}
use Rattle.dma_agents.proofs.clear.+are_dwords_whole.Given as goal

abbrev pub decreases-are_dwords_whole : goal.decreases-are_dwords_whole
decreases-are_dwords_whole l = length l.phases.now
