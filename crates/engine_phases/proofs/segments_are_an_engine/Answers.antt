use Rattle.engine_phases.proofs.WorkerLemmas.{engine_of}
use Rattle.engine_phases.proofs.segments_are_an_engine.Goals as goal

pub returns : goal.returns
returns g c = λ board workers received hand part between. engine_of g.L.LaneEnd.had g.L.LaneEnd.sent g.L.LaneEnd.got g.L.LaneEnd.kept g.L.LaneEnd.paired board workers received hand part between
