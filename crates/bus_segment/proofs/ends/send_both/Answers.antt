use Rattle.bus_segment.proofs.EndLemmas.{sends_both, room_behind}
use Rattle.bus_segment.proofs.ends.send_both.Goals as goal

pub send_at-requires : goal.send_at-requires
send_at-requires g c = c.requires.over

pub send_at-requires-2 : goal.send_at-requires-2
send_at-requires-2 g c =
    let E = g.L.LaneEnd in
    room_behind E.had E.sent E.got E.paired E.kept c.args.ends.now c.send_at.new.ends c.args.over c.args.back c.send_at.ensures c.requires.back c.requires.apart

pub returns : goal.returns
returns g c =
    let E = g.L.LaneEnd in
    sends_both E.had E.sent E.got E.paired c.args.ends.now c.send_at.new.ends c.send_at-2.new.ends c.args.over c.args.back c.send_at.ensures c.send_at-2.ensures
