-- What leaves a lane: the first item of a list that passes.
use Rattle.machine_steps.proofs.LeaveLemmas.{removes_first, leaves_none, finds_none, finds_first, no_more}

-- where there is such a place, and where there is none
pub ruleset leaves = (removes_first, leaves_none, finds_none, finds_first, no_more)
