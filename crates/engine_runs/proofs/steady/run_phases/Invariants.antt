use Rattle.engine_runs.specs.Loop.{all_seen, AreMarkedIdle}
use Rattle.engine_runs.specs.Steady.{IsSteady}
use Rattle.engine_runs.proofs.steady.run_phases.Given as goal

-- so many phases were busy
abbrev pub invariant-loop-phases : goal.invariant-loop-phases
invariant-loop-phases g l =
    let E = g.L.LaneEnd in
    record {
      steady : IsSteady {End = g.row.L.Denot} E.had E.sent E.got E.kept E.paired l.board (all_seen l.workers) l.above l.phases;
      marked : AreMarkedIdle {End = g.row.L.Denot} l.board (all_seen l.workers) l.idle;
    }
