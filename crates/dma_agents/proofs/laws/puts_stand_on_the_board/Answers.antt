use Rattle.dma_agents.proofs.PlacedLemmas.{puts_stand}
use Rattle.dma_agents.proofs.laws.puts_stand_on_the_board.Goals as goal

pub returns : goal.returns
returns c = λ text made put is there. puts_stand text made put is there
