use Rattle.law_local.proofs.phases.EngineLemmas.{worked_run, did_is, knows_is}
use Rattle.law_local.proofs.phases.phases_are_a_run.Goals as goal

pub returns-clause-run : goal.returns-clause-run
returns-clause-run c = λ carries stamp_of board received hand got sent kept part all valid worked ordered merged.
    worked_run carries stamp_of board received hand got sent part worked kept ordered valid all merged

pub returns-clause-did : goal.returns-clause-did
returns-clause-did c = did_is

pub returns-clause-knows : goal.returns-clause-knows
returns-clause-knows c = knows_is
