use Rattle.std.proofs.Common.{◌∙◌}
use Rattle.history_model.specs.World.{world_of}
use Rattle.history_model.specs.Answers.{bridge_to}
use Rattle.history_model.specs.Runs.{history_of}
use Rattle.judge_lanes.specs.Bridge.{turned}
use Rattle.judge_lanes.proofs.LaneLemmas.{lane_there, turned_back}
use Rattle.plain_replay.proofs.FaceLemmas.{face_there}
use Rattle.plain_replay.proofs.answers.lane_answer.Goals as goal

pub returns-in-Some : goal.returns-in-Some
returns-in-Some c =
    let board = c.args.board.now in
    let world = world_of board (history_of c.args.before.now) in
    let lanes = c.lanes_after_events-lanes.result in
    let up = c.args.lane.up in
    let there = lane_there world c.args.lane lanes c.lanes_after_events-lanes.ensures in
    face_there board world c.args.presented.bus c.args.presented.by c.args.presented.op c.args.request.now c.args.lane c.in-Some.bridge.now
    (bridge_to board c.args.lane.bus) (turned up lanes).here (turned up lanes).back c.answer.result
    there.0 (turned_back up lanes ∙ there.1) c.in-Some.ensures c.answer.ensures
