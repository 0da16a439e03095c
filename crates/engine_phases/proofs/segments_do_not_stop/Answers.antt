use Rattle.std.proofs.Common.{◌++◌}
use Rattle.engine_phases.proofs.WorkerLemmas.{worked_of, worked_rest}
use Rattle.engine_phases.proofs.StopLemmas.{no_stop}
use Rattle.engine_phases.proofs.segments_do_not_stop.Goals as goal

pub returns : goal.returns
returns g c = λ board old new received hand taken not_taken sent kept part later all lane bridge refused valid between did ordered merged some is low were_sent stops.
    let worked =
    worked_of g.L.LaneEnd.had g.L.LaneEnd.sent g.L.LaneEnd.got g.L.LaneEnd.kept g.L.LaneEnd.paired board old received hand part between new taken not_taken sent later did in
    let rest =
    worked_rest g.L.LaneEnd.had g.L.LaneEnd.sent g.L.LaneEnd.got g.L.LaneEnd.kept g.L.LaneEnd.paired board old received hand part between new taken not_taken sent later did in
    no_stop board valid received hand taken not_taken sent kept (λ bus. later bus ++ part bus) all worked rest ordered merged lane bridge some refused is low were_sent stops
