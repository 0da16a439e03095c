use Rattle.law_local.proofs.phases.EngineLemmas.{refused_taken, never_back, keeps_fewer}
use Rattle.law_local.proofs.phases.phases_stop_nowhere.Goals as goal

pub returns-clause-taken : goal.returns-clause-taken
returns-clause-taken c = λ carries stamp_of board received hand got sent kept part all valid worked ordered merged lane bridge item more some refused.
    refused_taken carries stamp_of board received hand got sent part worked kept ordered valid all merged lane bridge item more some refused

pub returns-clause-back : goal.returns-clause-back
returns-clause-back c = λ carries stamp_of board received hand got sent kept part all valid worked ordered merged lane.
    never_back carries stamp_of board received hand got sent part worked kept ordered valid all merged lane

pub returns-clause-room : goal.returns-clause-room
returns-clause-room c = λ carries stamp_of board received hand got sent kept part lane bridge e valid worked ordered some were_sent puts.
    keeps_fewer carries stamp_of board received hand got sent part worked kept ordered valid lane bridge e some were_sent puts
