use Rattle.std.proofs.Common.{refl}
use Rattle.worked_runs.proofs.FlagLemmas.{nothing_delivered}
use Rattle.worked_runs.proofs.premises.flags_that_open_set_do_not_deliver.Goals as goal

pub returns-clause-awaits : goal.returns-clause-awaits
returns-clause-awaits c = (9, refl)

pub returns-clause-not_delivered : goal.returns-clause-not_delivered
returns-clause-not_delivered c = nothing_delivered 1
