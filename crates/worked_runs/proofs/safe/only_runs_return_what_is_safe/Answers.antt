use Rattle.worked_runs.proofs.SafeLemmas.{flagged_consistent, flagged_safe}
use Rattle.worked_runs.proofs.safe.only_runs_return_what_is_safe.Goals as goal

pub returns-clause-consistent : goal.returns-clause-consistent
returns-clause-consistent c = flagged_consistent

pub returns-clause-safe : goal.returns-clause-safe
returns-clause-safe c = flagged_safe 2
