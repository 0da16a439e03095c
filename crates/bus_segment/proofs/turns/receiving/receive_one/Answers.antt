use Rattle.std.proofs.Common.{arith, length}
use Rattle.bus_segment.proofs.turns.ReceiveLemmas.{arrivals_fit, receive_works}
use Rattle.bus_segment.proofs.turns.receiving.receive_one.Goals as goal

pub receive-requires-clause-counts : goal.receive-requires-clause-counts
receive-requires-clause-counts g c =
    arrivals_fit c.args.segment.now.bus c.args.place (length c.args.segment.now.events.items) c.requires.counts (omega (arith, c.requires.spare, c.spare-spare.ensures.counted))

pub returns-clause-works : goal.returns-clause-works
returns-clause-works g c =
    let E = g.L.LaneEnd in
    let End : Type 0 = g.row.L.Denot in
    let e = c.receive.ensures in
    receive_works {End = End} E.had E.sent E.got E.kept E.paired c.args.board.now c.args.place c.args.segment.now.bus c.receive.new.self.bus c.args.segment.now.stamp c.receive.new.self.stamp c.args.segment.now.stopped c.receive.new.self.stopped
    c.receive.result c.args.segment.now.ends.items c.receive.new.self.ends.items c.args.segment.now.events.items c.receive.new.self.events.items c.requires.going e.does e.shape e.stamps e.most e.recorded e.arrives e.same_bus e.same_events
