use Rattle.engine_runs.specs.Loop.{all_seen}
use Rattle.engine_runs.specs.threads.Rounds.{IsInRounds}
use Rattle.engine_runs.proofs.threads.rounds.run_all.Given as goal

-- so many phases were busy
abbrev pub invariant-loop-phases : goal.invariant-loop-phases
invariant-loop-phases g l =
    let E = g.L.LaneEnd in
    IsInRounds {End = g.row.L.Denot} E.had E.sent E.got E.kept E.paired l.board (all_seen l.workers.items) l.above l.phases
