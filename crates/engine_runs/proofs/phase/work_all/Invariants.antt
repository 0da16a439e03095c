use Rattle.std.proofs.Common.{◌≡◌, length}
use Rattle.engine_runs.specs.Loop.{all_seen, AreMarkedIdle}
use Rattle.engine_runs.proofs.WorkLemmas.{WorkedSoFar}
use Rattle.engine_runs.proofs.phase.work_all.Given as goal

-- the first workers did their turns
abbrev pub invariant-loop-place : goal.invariant-loop-place
invariant-loop-place g l =
    let E = g.L.LaneEnd in
    record {
      same : length l.workers ≡ length l.initial.workers;
      marks : length l.idle ≡ length l.initial.workers;
      worked : WorkedSoFar {End = g.row.L.Denot} E.had E.sent E.got E.kept E.paired l.board l.phase l.place (all_seen l.initial.workers) (all_seen l.workers) l.busy;
      marked : AreMarkedIdle {End = g.row.L.Denot} l.board (all_seen l.workers) l.idle;
    }
