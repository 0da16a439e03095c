use Rattle.engine_phases.proofs.ring.RoundLemmas.{may_settle}
use Rattle.engine_phases.proofs.ring.rounds_may_settle.Goals as goal

pub returns : goal.returns
returns g c =
    let E = g.L.LaneEnd in
    λ board old new phases busy valid after ran. may_settle E.had E.sent E.got E.kept E.paired board valid old phases after new busy ran
