use Rattle.std.proofs.Common.{◌≡◌, IfSome, sym, ap, subst, ◌∙◌, slice_get}
use Rattle.std.specs.List.{find}
use Rattle.pci_command.specs.declared.op_id.OpId.{OpId}
use Rattle.bus_face.specs.Offers.{is_offer_of, offers_of}
use Rattle.bus_core.specs.Bus.{BusView, shape_of}
use Rattle.bus_core.specs.Serves.{BusOffers}
use Rattle.bus_segment.specs.Steps.{IsOfLane, Retries}
use Rattle.bus_segment.specs.turns.Works.{seen}
use Rattle.bus_segment.proofs.turns.WorkLemmas.{works_none}
use Rattle.bus_segment.proofs.turns.ServeLemmas.{serve_works, offered_there, found_op, not_offered}
use Rattle.bus_segment.proofs.turns.serving.serve_op.Goals as goal

pub serve_offer-requires-clause-offered : goal.serve_offer-requires-clause-offered
serve_offer-requires-clause-offered g c =
    let kept = subst (λ (s : BusView). IfSome (slice_get s.ports c.args.place) (λ port. c.offers-offers.result.items ≡ offers_of port.face)) c.bus.ensures c.offers-offers.ensures.kept in
    let found = ap (find (is_offer_of c.args.op)) (sym c.as_slice.ensures.value) ∙ (sym c.offer_of.ensures ∙ c.in-Some.is) in
    offered_there c.args.segment.now.bus c.args.place c.args.op c.offers-offers.result.items c.in-Some.offer kept found

pub returns-in-Some-clause-works : goal.returns-in-Some-clause-works
returns-in-Some-clause-works g c =
    let E = g.L.LaneEnd in
    let End : Type 0 = g.row.L.Denot in
    let e = c.serve_offer.ensures in
    serve_works {End = End} E.had E.sent E.got E.kept E.paired c.args.board.now c.args.segment.now.bus c.serve_offer.new.self.bus c.args.segment.now.stamp c.serve_offer.new.self.stamp c.args.segment.now.stopped c.serve_offer.new.self.stopped c.args.segment.now.ends.items c.serve_offer.new.self.ends.items c.args.segment.now.events.items c.serve_offer.new.self.events.items
    c.requires.going e.does e.shape e.arrivals e.stamp e.stamps e.most

pub returns-in-Some-clause-quiet : goal.returns-in-Some-clause-quiet
returns-in-Some-clause-quiet g c = λ same on.
    let E = g.L.LaneEnd in
    let End : Type 0 = g.row.L.Denot in
    let found = sym c.offer_of.ensures ∙ c.in-Some.is in
    let op = found_op c.args.op c.as_slice.result.now c.in-Some.offer found in
    subst (λ (o : OpId). Retries {End = End} c.args.board.now c.args.segment.now.bus c.serve_offer.new.self.bus c.args.segment.now.ends.items c.serve_offer.new.self.ends.items (IsOfLane (shape_of c.args.segment.now.bus) c.args.place o)) (sym op) (c.serve_offer.ensures.quiet same on)

pub returns-in-None-clause-works : goal.returns-in-None-clause-works
returns-in-None-clause-works g c =
    let E = g.L.LaneEnd in
    let End : Type 0 = g.row.L.Denot in
    works_none {End = End} E.had E.sent E.got E.kept E.paired c.args.board.now 1 (seen c.args.segment.now.bus c.args.segment.now.stamp c.args.segment.now.stopped) c.args.segment.now.ends.items c.args.segment.now.events.items

pub returns-in-None-clause-quiet : goal.returns-in-None-clause-quiet
returns-in-None-clause-quiet g c = λ same on.
    let End : Type 0 = g.row.L.Denot in
    let offers = subst (λ (s : BusView). BusOffers c.args.place s c.offers-offers.result.items) c.bus.ensures c.offers-offers.ensures.offers in
    let none = ap (find (is_offer_of c.args.op)) (sym c.as_slice.ensures.value) ∙ (sym c.offer_of.ensures ∙ c.in-None.is) in
    not_offered {End = End} c.args.board.now c.args.segment.now.bus c.args.segment.now.ends.items c.args.place c.args.op c.offers-offers.result.items offers none
