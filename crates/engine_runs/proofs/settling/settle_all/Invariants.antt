use Rattle.engine_runs.specs.Loop.{all_seen}
use Rattle.engine_runs.specs.Settling.{SettledSoFar}
use Rattle.engine_runs.proofs.settling.settle_all.Given as goal

-- the bridges to the first workers are settled
abbrev pub invariant-loop-place : goal.invariant-loop-place
invariant-loop-place g l =
    let E = g.L.LaneEnd in
    SettledSoFar {End = g.row.L.Denot} E.had E.sent E.got E.kept E.paired l.place (all_seen l.fn.workers) (all_seen l.workers)
