use Rattle.worked_runs.proofs.SafeLemmas.{flagged_safe}
use Rattle.worked_runs.proofs.safe.tables_must_be_consistent.Goals as goal

pub returns-clause-safe : goal.returns-clause-safe
returns-clause-safe c = flagged_safe 1
