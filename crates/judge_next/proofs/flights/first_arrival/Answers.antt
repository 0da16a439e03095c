use Rattle.std.proofs.Common.{◌≡◌, get_or, Option, Some, None, false, sym, ◌∙◌}
use Rattle.board_model.specs.declared.bridge.Lane.{Lane as BridgeLane}
use Rattle.history_model.specs.declared.event.Event.{Event}
use Rattle.judge_next.specs.Now.{arrival_now}
use Rattle.judge_next.proofs.FlightLemmas.{lane_found, lane_passed}
use Rattle.judge_next.proofs.flights.first_arrival.Goals as goal

pub returns-in-Some : goal.returns-in-Some
returns-in-Some c =
    let gives : BridgeLane → Option Event = arrival_now c.args.board.now c.args.kept.now in
    let d : BridgeLane = record { bus = 0; up = false } in
    let here : gives (get_or c.args.lanes.now c.loop-lane.lane-index d) ≡ Some c.in-Some.event = sym c.arrival_on_lane.ensures ∙ c.in-Some.is in
    lane_found gives c.args.lanes.now c.loop-lane.lane-index d c.in-Some.event c.loop-lane-test.true here c.loop-lane.invariant

pub loop-lane-preserved : goal.loop-lane-preserved
loop-lane-preserved c =
    let gives : BridgeLane → Option Event = arrival_now c.args.board.now c.args.kept.now in
    let d : BridgeLane = record { bus = 0; up = false } in
    let here : gives (get_or c.args.lanes.now c.loop-lane.lane-index d) ≡ None = sym c.arrival_on_lane.ensures ∙ c.in_default.is in
    lane_passed gives c.args.lanes.now c.loop-lane.lane-index d c.loop-lane-test.true here c.loop-lane.invariant
