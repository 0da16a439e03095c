use Rattle.dma_agents.proofs.FormedLemmas.{told_formed}
use Rattle.dma_agents.proofs.laws.made_boards_are_well_formed.Goals as goal

pub returns : goal.returns
returns c = told_formed
