use Rattle.std.proofs.Common.{◌≡◌, ◌+◌, false, refl, sym, ◌∙◌, arith}
use Rattle.board_model.specs.Limits.{most_waiting}
use Rattle.bus_segment.specs.turns.Works.{seen}
use Rattle.bus_segment.proofs.turns.WorkLemmas.{works_none, works_further, works_within}
use Rattle.bus_segment.proofs.turns.receiving.receive_from.Goals as goal

pub loop-received-init : goal.loop-received-init
loop-received-init g c =
    let E = g.L.LaneEnd in
    let End : Type 0 = g.row.L.Denot in
    record {
      going = c.requires.going;
      spare = omega arith;
      counted = omega arith;
      same_bus = λ same. refl;
      same_ends = λ same. refl;
      works = works_none {End = End} E.had E.sent E.got E.kept E.paired c.args.board.now 0 (seen c.args.segment.now.bus c.args.segment.now.stamp c.args.segment.now.stopped) c.args.segment.now.ends.items c.args.segment.now.events.items;
    }

pub returns-then-not-receive_one-clause-works : goal.returns-then-not-receive_one-clause-works
returns-then-not-receive_one-clause-works g c =
    let E = g.L.LaneEnd in
    let End : Type 0 = g.row.L.Denot in
    let i = c.loop-received.invariant in
    let both = works_further {End = End} E.had E.sent E.got E.kept E.paired c.args.board.now c.loop-received._received 1 (seen c.args.segment.now.bus c.args.segment.now.stamp c.args.segment.now.stopped) (seen c.loop-received.segment.bus c.loop-received.segment.stamp c.loop-received.segment.stopped) (seen c.receive_one.new.segment.bus c.receive_one.new.segment.stamp c.receive_one.new.segment.stopped)
    c.args.segment.now.ends.items c.loop-received.segment.ends.items c.receive_one.new.segment.ends.items c.args.segment.now.events.items c.loop-received.segment.events.items c.receive_one.new.segment.events.items c.requires.going i.going i.works c.receive_one.ensures.works in
    works_within {End = End} E.had E.sent E.got E.kept E.paired c.args.board.now (c.loop-received._received + 1) most_waiting (seen c.args.segment.now.bus c.args.segment.now.stamp c.args.segment.now.stopped) (seen c.receive_one.new.segment.bus c.receive_one.new.segment.stamp c.receive_one.new.segment.stopped)
    c.args.segment.now.ends.items c.receive_one.new.segment.ends.items c.args.segment.now.events.items c.receive_one.new.segment.events.items (omega (arith, both.most, c.loop-received-test.true)) both

pub returns-then-stopped-clause-works : goal.returns-then-stopped-clause-works
returns-then-stopped-clause-works g c =
    let E = g.L.LaneEnd in
    let End : Type 0 = g.row.L.Denot in
    let i = c.loop-received.invariant in
    let both = works_further {End = End} E.had E.sent E.got E.kept E.paired c.args.board.now c.loop-received._received 1 (seen c.args.segment.now.bus c.args.segment.now.stamp c.args.segment.now.stopped) (seen c.loop-received.segment.bus c.loop-received.segment.stamp c.loop-received.segment.stopped) (seen c.receive_one.new.segment.bus c.receive_one.new.segment.stamp c.receive_one.new.segment.stopped)
    c.args.segment.now.ends.items c.loop-received.segment.ends.items c.receive_one.new.segment.ends.items c.args.segment.now.events.items c.loop-received.segment.events.items c.receive_one.new.segment.events.items c.requires.going i.going i.works c.receive_one.ensures.works in
    works_within {End = End} E.had E.sent E.got E.kept E.paired c.args.board.now (c.loop-received._received + 1) most_waiting (seen c.args.segment.now.bus c.args.segment.now.stamp c.args.segment.now.stopped) (seen c.receive_one.new.segment.bus c.receive_one.new.segment.stamp c.receive_one.new.segment.stopped)
    c.args.segment.now.ends.items c.receive_one.new.segment.ends.items c.args.segment.now.events.items c.receive_one.new.segment.events.items (omega (arith, both.most, c.loop-received-test.true)) both

pub loop-received-preserved : goal.loop-received-preserved
loop-received-preserved g c =
    let E = g.L.LaneEnd in
    let End : Type 0 = g.row.L.Denot in
    let i = c.loop-received.invariant in
    let on : c.receive_one.new.segment.stopped ≡ false = sym c.stopped.ensures ∙ c.if-stopped.false in
    let some = c.receive_one.ensures.some c.if-not-receive_one.false on in
    record {
      going = on;
      spare = omega (arith, i.spare, c.receive_one.ensures.spare);
      counted = omega (arith, i.counted, some);
      same_bus = λ same. absurd {A = c.receive_one.new.segment.bus ≡ c.args.segment.now.bus} (omega (arith, i.counted, some, same));
      same_ends = λ same. absurd {A = c.receive_one.new.segment.ends.items ≡ c.args.segment.now.ends.items} (omega (arith, i.counted, some, same));
      works = works_further {End = End} E.had E.sent E.got E.kept E.paired c.args.board.now c.loop-received._received 1 (seen c.args.segment.now.bus c.args.segment.now.stamp c.args.segment.now.stopped) (seen c.loop-received.segment.bus c.loop-received.segment.stamp c.loop-received.segment.stopped) (seen c.receive_one.new.segment.bus c.receive_one.new.segment.stamp c.receive_one.new.segment.stopped)
          c.args.segment.now.ends.items c.loop-received.segment.ends.items c.receive_one.new.segment.ends.items c.args.segment.now.events.items c.loop-received.segment.events.items c.receive_one.new.segment.events.items c.requires.going i.going i.works c.receive_one.ensures.works;
    }
