use Rattle.history_model.specs.World.{world_of}
use Rattle.history_model.specs.Runs.{history_of}
use Rattle.plain_replay.proofs.FaceLemmas.{lane_is, presents_there}
use Rattle.plain_replay.proofs.presenting.presents.Goals as goal

pub returns : goal.returns
returns c =
    let world = world_of c.args.board.now (history_of c.args.before.now) in
    presents_there c.args.board.now c.args.bus c.args.op world c.args.lane c.lane.result.now c.standing.result.now c.may_go.result
    (lane_is world c.args.lane c.lanes_after_events-lanes.result c.lane.result.now c.lanes_after_events-lanes.ensures c.lane.ensures) c.standing.ensures c.may_go.ensures
