use Rattle.law_safe.proofs.said.SaidLemmas.{said_returns}
use Rattle.law_safe.proofs.said.said_safe_returns.Goals as goal

pub returns : goal.returns
returns c = λ board table h r word value valid is_largest said run ends. said_returns board table h r word value valid is_largest said run ends
