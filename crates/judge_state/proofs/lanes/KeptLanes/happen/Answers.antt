use Rattle.judge_state.proofs.RoomLemmas.{room_second}
use Rattle.judge_state.proofs.lanes.KeptLanes.happen.Goals as goal

pub happen_on-ended-requires : goal.happen_on-ended-requires
happen_on-ended-requires c =
    let room = room_second c.args.rule c.args.board.now c.args.event.now c.args.self.now c.bus_at-first.result c.bus_by.result c.requires in
    rw (c.happen_on-claimed.ensures.lanes, c.other_than.ensures) room
