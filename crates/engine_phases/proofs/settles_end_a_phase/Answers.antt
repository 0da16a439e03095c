use Rattle.std.proofs.Common.{true, refl}
use Rattle.engine_phases.proofs.SteadyLemmas.{settled_after}
use Rattle.engine_phases.proofs.settles_end_a_phase.Goals as goal

pub returns : goal.returns
returns g c =
    let E = g.L.LaneEnd in
    λ board old new settled phases valid after turned crosses settles. settled_after E.had E.sent E.got E.kept E.paired board valid old phases after new true turned crosses settled
    (c.turns_stop_no_worker.ensures.going board old new phases true valid after turned crosses) settles refl
