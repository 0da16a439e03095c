use Rattle.std.proofs.Common.{◌≡◌, ◌+◌, ◌-◌, ◌≤◌, length, sym, subst, arith}
use Rattle.board_model.specs.Limits.{most_ports}
use Rattle.bus_core.specs.Bus.{shape_of}
use Rattle.bus_segment.specs.turns.Works.{seen, Works, most_at}
use Rattle.bus_segment.proofs.turns.LineLemmas.{lanes_many, most_master}
use Rattle.bus_segment.proofs.turns.ServeLemmas.{serve_works, port_line, master_line}
use Rattle.bus_segment.proofs.turns.serving.serve.Goals as goal

pub returns-then-line-lt-MASTERS-clause-quiet : goal.returns-then-line-lt-MASTERS-clause-quiet
returns-then-line-lt-MASTERS-clause-quiet g c = λ same on.
    let End : Type 0 = g.row.L.Denot in
    port_line {End = End} c.args.board.now c.args.segment.now.bus c.serve_lane.new.segment.bus c.args.segment.now.ends.items c.serve_lane.new.segment.ends.items c.args.line c.if-line-lt-MASTERS.true (c.serve_lane.ensures.quiet same on)

pub returns-else-line-lt-MASTERS-clause-works : goal.returns-else-line-lt-MASTERS-clause-works
returns-else-line-lt-MASTERS-clause-works g c =
    let E = g.L.LaneEnd in
    let End : Type 0 = g.row.L.Denot in
    let e = c.serve_master.ensures in
    let most : 1 ≡ most_at c.args.line = sym (most_master c.args.line c.if-line-lt-MASTERS.false) in
    subst (λ n. Works {End = End} E.had E.sent E.got E.kept E.paired c.args.board.now n (seen c.args.segment.now.bus c.args.segment.now.stamp c.args.segment.now.stopped) (seen c.serve_master.new.self.bus c.serve_master.new.self.stamp c.serve_master.new.self.stopped) c.args.segment.now.ends.items c.serve_master.new.self.ends.items c.args.segment.now.events.items c.serve_master.new.self.events.items) most
    (serve_works {End = End} E.had E.sent E.got E.kept E.paired c.args.board.now c.args.segment.now.bus c.serve_master.new.self.bus c.args.segment.now.stamp c.serve_master.new.self.stamp c.args.segment.now.stopped c.serve_master.new.self.stopped c.args.segment.now.ends.items c.serve_master.new.self.ends.items c.args.segment.now.events.items c.serve_master.new.self.events.items
    c.requires.going e.does e.shape e.arrivals e.stamp e.stamps e.most)

pub returns-else-line-lt-MASTERS-clause-quiet : goal.returns-else-line-lt-MASTERS-clause-quiet
returns-else-line-lt-MASTERS-clause-quiet g c = λ same on.
    let End : Type 0 = g.row.L.Denot in
    let high : c.args.line ≡ most_ports + (c.args.line - most_ports) = omega (arith, c.if-line-lt-MASTERS.false) in
    let few : length (shape_of c.args.segment.now.bus).lanes ≤ most_ports = omega (arith, lanes_many c.args.segment.now.bus, c.requires.ports) in
    master_line {End = End} c.args.board.now c.args.segment.now.bus c.serve_master.new.self.bus c.args.segment.now.ends.items c.serve_master.new.self.ends.items c.args.line (c.args.line - most_ports) high few (c.serve_master.ensures.quiet same on)
