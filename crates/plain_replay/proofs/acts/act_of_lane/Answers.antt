use Rattle.std.proofs.Common.{◌≡◌, ◌∙◌, ap}
use Rattle.board_model.specs.declared.board.Board.{Board}
use Rattle.history_model.specs.Lanes.{LaneState}
use Rattle.history_model.specs.World.{World, world_of}
use Rattle.history_model.specs.Runs.{history_of}
use Rattle.plain_replay.proofs.FaceLemmas.{lane_is}
use Rattle.history_model.specs.Next.{first_in, act_of_item}
use Rattle.plain_replay.proofs.acts.act_of_lane.Goals as goal

pub returns : goal.returns
returns c =
    let board : Board = c.args.board.now in
    let h = history_of c.args.before.now in
    let world : World = world_of board h in
    let here : c.lane.result.now ≡ world c.args.lane = lane_is world c.args.lane c.lanes_after_events-lanes.result c.lane.result.now c.lanes_after_events-lanes.ensures c.lane.ensures in
    let stands : c.standing.result.now ≡ (world c.args.lane).standing = c.standing.ensures ∙ ap (λ (state : LaneState). state.standing) here in
    c.act_of_items.ensures ∙ ap (first_in (act_of_item board h c.args.bus c.args.lane)) stands
