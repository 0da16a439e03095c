use Rattle.std.proofs.Common.{false, refl}
use Rattle.engine_phases.proofs.SteadyLemmas.{complete_after}
use Rattle.engine_phases.proofs.idle_phases_end_the_run.Goals as goal

pub returns : goal.returns
returns g c =
    let E = g.L.LaneEnd in
    λ board old new phases valid after turned crosses. complete_after E.had E.sent E.got E.kept E.paired board valid old phases after new false turned crosses (record { bounded = c.runs_end.ensures.bounded })
    (c.turns_stop_no_worker.ensures.going board old new phases false valid after turned crosses) refl
