use Rattle.engine_phases.proofs.SteadyLemmas.{may_settle, going_on}
use Rattle.engine_phases.proofs.turns_stop_no_worker.Goals as goal

pub returns-clause-settle : goal.returns-clause-settle
returns-clause-settle g c =
    let E = g.L.LaneEnd in
    λ board old new phases busy valid after turned. may_settle E.had E.sent E.got E.kept E.paired board valid old phases after new busy turned

pub returns-clause-going : goal.returns-clause-going
returns-clause-going g c =
    let E = g.L.LaneEnd in
    λ board old new phases busy valid after turned crosses. going_on E.had E.sent E.got E.kept E.paired board valid old phases after new busy turned crosses
    g.met.L.LaneEnd.kept_were_sent (c.phases_are_few.ensures board old phases valid after)
