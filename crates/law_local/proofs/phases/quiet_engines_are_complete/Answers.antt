use Rattle.law_local.proofs.phases.CompleteLemmas.{engine_run, engine_complete}
use Rattle.law_local.proofs.phases.quiet_engines_are_complete.Goals as goal

pub returns-clause-run : goal.returns-clause-run
returns-clause-run c = λ carries stamp_of board received hand part all valid engine merged. engine_run carries stamp_of board received hand part engine valid all merged

pub returns-clause-complete : goal.returns-clause-complete
returns-clause-complete c = λ carries stamp_of board received hand part all valid engine merged none retried.
    engine_complete carries stamp_of board received hand part engine valid all merged none retried
