use Rattle.std.proofs.Common.{◌≡◌, ◌+◌, ◌*◌, false, length, refl, sym, ap, ◌∙◌, arith}
use Rattle.board_model.specs.Limits.{most_waiting}
use Rattle.bus_core.specs.Bus.{BusView}
use Rattle.bus_segment.specs.turns.Works.{seen}
use Rattle.bus_segment.proofs.turns.WorkLemmas.{works_none, works_further, works_within}
use Rattle.bus_segment.proofs.turns.ReceiveLemmas.{none_before, none_further, none_in_hand}
use Rattle.bus_segment.proofs.turns.receiving.receive_all.Goals as goal

pub loop-place-init : goal.loop-place-init
loop-place-init g c =
    let E = g.L.LaneEnd in
    let End : Type 0 = g.row.L.Denot in
    record {
      spare = omega arith;
      same_bus = λ same on. refl;
      none = λ same on. none_before {End = End} E.had E.got c.args.segment.now.ends.items;
      works = works_none {End = End} E.had E.sent E.got E.kept E.paired c.args.board.now 0 (seen c.args.segment.now.bus c.args.segment.now.stamp c.args.segment.now.stopped) c.args.segment.now.ends.items c.args.segment.now.events.items;
    }

pub loop-place-preserved : goal.loop-place-preserved
loop-place-preserved g c =
    let E = g.L.LaneEnd in
    let End : Type 0 = g.row.L.Denot in
    let i = c.loop-place.invariant in
    let e = c.receive_from.ensures in
    let on : c.loop-place.segment.stopped ≡ false = sym c.stopped.ensures ∙ c.if-stopped.false in
    let both = works_further {End = End} E.had E.sent E.got E.kept E.paired c.args.board.now (most_waiting * c.loop-place.place) most_waiting (seen c.args.segment.now.bus c.args.segment.now.stamp c.args.segment.now.stopped) (seen c.loop-place.segment.bus c.loop-place.segment.stamp c.loop-place.segment.stopped) (seen c.receive_from.new.segment.bus c.receive_from.new.segment.stamp c.receive_from.new.segment.stopped)
    c.args.segment.now.ends.items c.loop-place.segment.ends.items c.receive_from.new.segment.ends.items c.args.segment.now.events.items c.loop-place.segment.events.items c.receive_from.new.segment.events.items c.requires.going on i.works e.works in
    record {
      spare = omega (arith, i.spare, e.spare);
      same_bus = λ same still. e.same (omega (arith, i.works.grows, e.works.grows, same)) still ∙ i.same_bus (omega (arith, i.works.grows, e.works.grows, same)) on;
      none = λ same still. none_further {End = End} E.had E.got c.loop-place.place (c.loop-place.place + 1) c.loop-place.segment.ends.items c.receive_from.new.segment.ends.items refl (i.none (omega (arith, i.works.grows, e.works.grows, same)) on)
          (e.quiet (omega (arith, i.works.grows, e.works.grows, same)) still);
      works = works_within {End = End} E.had E.sent E.got E.kept E.paired c.args.board.now (most_waiting * c.loop-place.place + most_waiting) (most_waiting * (c.loop-place.place + 1)) (seen c.args.segment.now.bus c.args.segment.now.stamp c.args.segment.now.stopped) (seen c.receive_from.new.segment.bus c.receive_from.new.segment.stamp c.receive_from.new.segment.stopped)
          c.args.segment.now.ends.items c.receive_from.new.segment.ends.items c.args.segment.now.events.items c.receive_from.new.segment.events.items (omega (arith, both.most)) both;
    }

pub returns-clause-quiet : goal.returns-clause-quiet
returns-clause-quiet g c = λ same on.
    let E = g.L.LaneEnd in
    let End : Type 0 = g.row.L.Denot in
    let i = c.loop-place.invariant in
    let many : c.ports-place-end.result ≡ length c.args.segment.now.bus.ports = c.ports-place-end.ensures ∙ ap (λ (s : BusView). length s.ports) c.bus.ensures in
    none_in_hand {End = End} E.had E.got c.loop-place.place c.loop-place.segment.ends.items (omega (arith, i.works.does.many, c.requires.ends, c.loop-place-test.false, many)) (i.none same on)
