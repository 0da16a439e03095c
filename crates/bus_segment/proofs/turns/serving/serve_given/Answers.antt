use Rattle.std.proofs.Common.{sym, ◌∙◌}
use Rattle.bus_segment.proofs.turns.ServeLemmas.{serve_works}
use Rattle.bus_segment.proofs.turns.serving.serve_given.Goals as goal

pub serve_offer-requires-clause-offered : goal.serve_offer-requires-clause-offered
serve_offer-requires-clause-offered g c = c.requires.offered (sym c.recorded-count.ensures ∙ c.if-count-before.true)

pub returns-then-count-before-clause-works : goal.returns-then-count-before-clause-works
returns-then-count-before-clause-works g c =
    let E = g.L.LaneEnd in
    let End : Type 0 = g.row.L.Denot in
    let e = c.serve_offer.ensures in
    serve_works {End = End} E.had E.sent E.got E.kept E.paired c.args.board.now c.args.segment.now.bus c.serve_offer.new.self.bus c.args.segment.now.stamp c.serve_offer.new.self.stamp c.args.segment.now.stopped c.serve_offer.new.self.stopped c.args.segment.now.ends.items c.serve_offer.new.self.ends.items c.args.segment.now.events.items c.serve_offer.new.self.events.items
    c.requires.going e.does e.shape e.arrivals e.stamp e.stamps e.most

pub returns-then-count-before-clause-quiet : goal.returns-then-count-before-clause-quiet
returns-then-count-before-clause-quiet g c = c.serve_offer.ensures.quiet
