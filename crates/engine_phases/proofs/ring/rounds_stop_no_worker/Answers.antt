use Rattle.engine_phases.proofs.ring.RoundLemmas.{going_on}
use Rattle.engine_phases.proofs.ring.rounds_stop_no_worker.Goals as goal

pub returns : goal.returns
returns g c =
    let E = g.L.LaneEnd in
    λ board old new settled phases busy valid after ran settles. going_on E.had E.sent E.got E.kept E.paired board valid old phases after new busy ran settled settles
    g.met.L.LaneEnd.kept_were_sent (record { bounded = c.runs_end.ensures.bounded })
