use Rattle.law_safe.proofs.said.SaidLemmas.{said_not_met}
use Rattle.law_safe.proofs.said.said_vain_is_not_met.Goals as goal

pub returns : goal.returns
returns c = λ board table e h p want outcome valid is_largest said awaits run ends. said_not_met board table e h p want outcome valid is_largest said awaits run ends
