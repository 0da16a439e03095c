use Rattle.law_audit.proofs.AllLemmas.{all_found}
use Rattle.law_audit.proofs.reads_that_knew_are_found.Goals as goal

pub returns : goal.returns
returns c = λ board h valid run. all_found board h valid run
