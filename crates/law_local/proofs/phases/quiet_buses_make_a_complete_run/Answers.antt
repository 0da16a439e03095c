use Rattle.law_local.proofs.phases.QuietLemmas.{buses_complete}
use Rattle.law_local.proofs.phases.quiet_buses_make_a_complete_run.Goals as goal

pub returns : goal.returns
returns c = λ board sent h valid so_far quiet. buses_complete board valid sent h so_far quiet
