use Rattle.law_audit.proofs.OnceLemmas.{found_once}
use Rattle.law_audit.proofs.reads_are_found_once.Goals as goal

pub returns : goal.returns
returns c = λ board h valid run. found_once board h run
