use Rattle.std.proofs.Common.{◌≡◌, ◌+◌, ◌<◌, ◌≤◌, false, length, sym, subst, ◌∙◌, arith}
use Rattle.board_model.specs.Limits.{most_lines, most_served}
use Rattle.bus_core.specs.Bus.{BusView}
use Rattle.bus_segment.specs.turns.Works.{seen, AreAsked, most_at}
use Rattle.bus_segment.proofs.turns.WorkLemmas.{works_none, works_further, works_within}
use Rattle.bus_segment.proofs.turns.LineLemmas.{left, left_at_first, cleared, cleared_other, cleared_asks, left_cleared, most_some, ports_same, served_low, served_there}
use Rattle.bus_segment.proofs.turns.ServeLemmas.{all_silent, all_further}
use Rattle.bus_segment.proofs.turns.serving.serve_all.Goals as goal

pub grants-init : goal.grants-init
grants-init g c =
    let E = g.L.LaneEnd in
    let End : Type 0 = g.row.L.Denot in
    let asked = subst (λ (s : BusView). AreAsked s c.lines-lines.result) c.bus.ensures c.lines-lines.ensures in
    record {
      spare = omega arith;
      bound = omega (arith, left_at_first c.lines-lines.result);
      served = asked.served;
      quiet = λ same on. all_silent {End = End} c.args.board.now c.args.segment.now.bus c.args.segment.now.ends.items c.lines-lines.result asked;
      works = works_none {End = End} E.had E.sent E.got E.kept E.paired c.args.board.now most_served (seen c.args.segment.now.bus c.args.segment.now.stamp c.args.segment.now.stopped) c.args.segment.now.ends.items c.args.segment.now.events.items;
    }

pub serve-requires-clause-ends : goal.serve-requires-clause-ends
serve-requires-clause-ends g c = let i = c.grants.invariant in omega (arith, i.works.does.many, ports_same c.grants.segment.bus c.args.segment.now.bus i.works.shape, c.requires.ends)

pub serve-requires-clause-line : goal.serve-requires-clause-line
serve-requires-clause-line g c =
    let i = c.grants.invariant in
    served_there c.args.segment.now.bus c.grants.segment.bus c.in-Some.line i.works.shape (i.served c.in-Some.line c.in-Some.ensures.granted.asks)

pub serve-requires-clause-spare : goal.serve-requires-clause-spare
serve-requires-clause-spare g c =
    let i = c.grants.invariant in
    let asks = c.in-Some.ensures.granted.asks in
    let low : c.in-Some.line < most_lines = served_low c.args.segment.now.bus c.in-Some.line c.requires.ports c.requires.masters (i.served c.in-Some.line asks) in
    let less = left_cleared c.grants.lines c.in-Some.line low asks in
    omega (arith, less, i.bound, i.spare, c.requires.spare)

pub grants-smaller : goal.grants-smaller
grants-smaller g c =
    let i = c.grants.invariant in
    let asks = c.in-Some.ensures.granted.asks in
    let low : c.in-Some.line < most_lines = served_low c.args.segment.now.bus c.in-Some.line c.requires.ports c.requires.masters (i.served c.in-Some.line asks) in
    let less = left_cleared c.grants.lines c.in-Some.line low asks in
    omega (arith, less, most_some c.in-Some.line)

pub grants-preserved : goal.grants-preserved
grants-preserved g c =
    let E = g.L.LaneEnd in
    let End : Type 0 = g.row.L.Denot in
    let i = c.grants.invariant in
    let e = c.serve.ensures in
    let on : c.grants.segment.stopped ≡ false = sym c.stopped.ensures ∙ c.grants-test.true in
    let asks = c.in-Some.ensures.granted.asks in
    let low : c.in-Some.line < most_lines = served_low c.args.segment.now.bus c.in-Some.line c.requires.ports c.requires.masters (i.served c.in-Some.line asks) in
    let less = left_cleared c.grants.lines c.in-Some.line low asks in
    let bound : length c.serve.new.segment.events.items + left (cleared c.grants.lines c.in-Some.line) most_lines ≤ length c.args.segment.now.events.items + most_served = omega (arith, less, i.bound, e.works.most) in
    let both = works_further {End = End} E.had E.sent E.got E.kept E.paired c.args.board.now most_served (most_at c.in-Some.line) (seen c.args.segment.now.bus c.args.segment.now.stamp c.args.segment.now.stopped) (seen c.grants.segment.bus c.grants.segment.stamp c.grants.segment.stopped) (seen c.serve.new.segment.bus c.serve.new.segment.stamp c.serve.new.segment.stopped)
    c.args.segment.now.ends.items c.grants.segment.ends.items c.serve.new.segment.ends.items c.args.segment.now.events.items c.grants.segment.events.items c.serve.new.segment.events.items c.requires.going on i.works e.works in
    record {
      spare = omega (arith, i.spare, e.spare);
      bound = bound;
      served = λ n is. i.served n (cleared_asks c.grants.lines c.in-Some.line n is);
      quiet = λ same still.
          all_further {End = End} c.args.board.now c.args.segment.now.bus c.grants.segment.bus c.serve.new.segment.bus c.args.segment.now.ends.items c.grants.segment.ends.items c.serve.new.segment.ends.items c.grants.lines (cleared c.grants.lines c.in-Some.line) c.in-Some.line i.works.shape
          (λ n below apart. cleared_other c.grants.lines c.in-Some.line n low below apart)
          (i.quiet (omega (arith, i.works.grows, e.works.grows, same)) on) (e.quiet (omega (arith, i.works.grows, e.works.grows, same)) still);
      works = works_within {End = End} E.had E.sent E.got E.kept E.paired c.args.board.now (most_served + most_at c.in-Some.line) most_served (seen c.args.segment.now.bus c.args.segment.now.stamp c.args.segment.now.stopped) (seen c.serve.new.segment.bus c.serve.new.segment.stamp c.serve.new.segment.stopped)
          c.args.segment.now.ends.items c.serve.new.segment.ends.items c.args.segment.now.events.items c.serve.new.segment.events.items (omega (arith, bound)) both;
    }
