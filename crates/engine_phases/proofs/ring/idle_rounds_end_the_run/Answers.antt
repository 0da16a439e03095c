use Rattle.std.proofs.Common.{false, refl}
use Rattle.engine_phases.proofs.ring.RoundLemmas.{complete_after}
use Rattle.engine_phases.proofs.ring.idle_rounds_end_the_run.Goals as goal

pub returns : goal.returns
returns g c =
    let E = g.L.LaneEnd in
    λ board old new settled phases valid after ran settles. complete_after E.had E.sent E.got E.kept E.paired board valid old phases after new false ran settled settles (record { bounded = c.runs_end.ensures.bounded })
    (c.rounds_stop_no_worker.ensures board old new settled phases false valid after ran settles) refl
