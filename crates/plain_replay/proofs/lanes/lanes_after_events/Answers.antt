use Rattle.std.proofs.Common.{arith}
use Rattle.judge_lanes.proofs.RoomLemmas.{room_before, lanes_more}
use Rattle.plain_replay.proofs.lanes.lanes_after_events.Goals as goal

pub happen-requires : goal.happen-requires
happen-requires c =
    room_before c.args.board.now c.args.before.now c.loop-event.event-index c.args.bus c.loop-event.lanes c.requires.formed c.requires.run
    c.loop-event.invariant.0 c.loop-event.invariant.1 (omega arith)

pub loop-event-preserved : goal.loop-event-preserved
loop-event-preserved c =
    lanes_more c.args.board.now c.args.before.now c.loop-event.event-index _ c.args.bus c.loop-event.lanes c.happen.new.self c.loop-event-test.true
    c.loop-event.invariant.0 c.loop-event.invariant.1 c.happen.ensures.lanes
