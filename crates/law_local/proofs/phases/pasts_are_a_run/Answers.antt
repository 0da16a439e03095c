use Rattle.law_local.proofs.phases.PastLemmas.{pasts_run}
use Rattle.law_local.proofs.phases.pasts_are_a_run.Goals as goal

pub returns : goal.returns
returns c = λ board sent stamps part all valid pasts merged. pasts_run board valid sent stamps part pasts all merged
