use Rattle.engine_phases.proofs.WorkerLemmas.{worked_of, worked_rest}
use Rattle.engine_phases.proofs.segments_work_a_phase.Goals as goal

pub returns : goal.returns
returns g c = λ board old new received hand taken not_taken sent part later between did. (
  worked_of g.L.LaneEnd.had g.L.LaneEnd.sent g.L.LaneEnd.got g.L.LaneEnd.kept g.L.LaneEnd.paired board old received hand part between new taken not_taken sent later did,
  worked_rest g.L.LaneEnd.had g.L.LaneEnd.sent g.L.LaneEnd.got g.L.LaneEnd.kept g.L.LaneEnd.paired board old received hand part between new taken not_taken sent later did,
)
