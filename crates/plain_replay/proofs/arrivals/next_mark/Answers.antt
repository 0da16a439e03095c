use Rattle.history_model.specs.World.{world_of}
use Rattle.history_model.specs.Runs.{history_of}
use Rattle.plain_replay.proofs.FaceLemmas.{lane_is, mark_there}
use Rattle.plain_replay.proofs.arrivals.next_mark.Goals as goal

pub returns : goal.returns
returns c =
    let world = world_of c.args.board.now (history_of c.args.before.now) in
    mark_there c.args.board.now world c.args.lane c.lane.result.now c.mark_of_first.result
    (lane_is world c.args.lane c.lanes_after_events-lanes.result c.lane.result.now c.lanes_after_events-lanes.ensures c.lane.ensures) c.mark_of_first.ensures
