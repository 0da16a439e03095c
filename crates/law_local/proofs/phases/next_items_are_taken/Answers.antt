use Rattle.law_local.proofs.phases.TakenLemmas.{next_taken}
use Rattle.law_local.proofs.phases.next_items_are_taken.Goals as goal

pub returns : goal.returns
returns c = next_taken
