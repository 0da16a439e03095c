use Rattle.std.proofs.Common.{true, refl}
use Rattle.engine_phases.proofs.ring.RoundLemmas.{settled_after}
use Rattle.engine_phases.proofs.ring.rounds_go_on.Goals as goal

pub returns : goal.returns
returns g c =
    let E = g.L.LaneEnd in
    λ board old new settled phases valid after ran settles. settled_after E.had E.sent E.got E.kept E.paired board valid old phases after new true ran settled settles
    (c.rounds_stop_no_worker.ensures board old new settled phases true valid after ran settles) refl
