use Rattle.law_safe.proofs.safe.SafeLemmas.{safe_returns}
use Rattle.law_safe.proofs.safe.safe_reads_return.Goals as goal

pub returns : goal.returns
returns c = λ board table h r value valid consistent safe run ended. safe_returns board table h r value valid consistent safe run ended
