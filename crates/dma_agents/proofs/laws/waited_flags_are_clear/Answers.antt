use Rattle.dma_agents.proofs.ToldLemmas.{waited_clear}
use Rattle.dma_agents.proofs.laws.waited_flags_are_clear.Goals as goal

pub returns : goal.returns
returns c = λ text made line flag is there waits. waited_clear text made line flag is there waits
