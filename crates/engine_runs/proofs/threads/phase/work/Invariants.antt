use Rattle.engine_runs.specs.Loop.{seen}
use Rattle.engine_runs.specs.threads.Turns.{HasTurned}
use Rattle.engine_runs.proofs.threads.phase.work.Given as goal

-- the turns so far
abbrev pub invariant-loop : goal.invariant-loop
invariant-loop g l =
    let E = g.L.LaneEnd in
    HasTurned {End = g.row.L.Denot} E.had E.sent E.got E.kept E.paired l.board (seen l.fn.worker) l.worker l.goes_on
