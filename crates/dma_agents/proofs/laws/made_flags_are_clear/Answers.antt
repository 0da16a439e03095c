use Rattle.dma_agents.proofs.MadeLemmas.{made_clear}
use Rattle.dma_agents.proofs.laws.made_flags_are_clear.Goals as goal

pub returns : goal.returns
returns c = λ text made p address value tries is least awaits. made_clear text made p address value tries is least awaits
