use Rattle.std.proofs.Common.{◌≡◌, ◌+◌, false, List, IfSome, refl, sym, subst, ◌∙◌, arith, slice_get}
use Rattle.std.proofs.lemmas.List.{take_all}
use Rattle.std.proofs.lemmas.Option.{slice_get-get_or}
use Rattle.bus_face.specs.declared.offer.Offer.{Offer}
use Rattle.bus_face.specs.Offers.{offers_of}
use Rattle.bus_core.specs.Bus.{BusView, shape_of}
use Rattle.bus_core.specs.Serves.{BusOffers}
use Rattle.bus_segment.specs.Steps.{Retries}
use Rattle.bus_segment.specs.turns.Works.{seen}
use Rattle.bus_segment.proofs.turns.WorkLemmas.{works_none, works_further}
use Rattle.bus_segment.proofs.turns.ServeLemmas.{IsAmong, offered_still, retries_none, retries_more, retries_port}
use Rattle.bus_segment.proofs.turns.serving.serve_lane.Goals as goal

pub loop-offer-init : goal.loop-offer-init
loop-offer-init g c =
    let E = g.L.LaneEnd in
    let End : Type 0 = g.row.L.Denot in
    record {
      spare = omega arith;
      quiet = λ same on. retries_none {End = End} c.args.board.now c.args.segment.now.bus c.args.segment.now.ends.items (shape_of c.args.segment.now.bus) c.args.place;
      works = works_none {End = End} E.had E.sent E.got E.kept E.paired c.args.board.now 0 (seen c.args.segment.now.bus c.args.segment.now.stamp c.args.segment.now.stopped) c.args.segment.now.ends.items c.args.segment.now.events.items;
    }

-- where nothing happened since, it is offered still
pub serve_given-requires-clause-offered : goal.serve_given-requires-clause-offered
serve_given-requires-clause-offered g c = λ none.
    let on : c.loop-offer.segment.stopped ≡ false = sym c.stopped.ensures ∙ c.if-stopped.false in
    let kept = subst (λ (s : BusView). IfSome (slice_get s.ports c.args.place) (λ port. c.offers-offers.result.items ≡ offers_of port.face)) c.bus.ensures c.offers-offers.ensures.kept in
    let same = (c.loop-offer.invariant.quiet (none ∙ c.recorded-before.ensures) on).same_bus in
    offered_still c.args.segment.now.bus c.loop-offer.segment.bus c.args.place c.loop-offer.offer-index c.offers-offers.result.items c.as_slice-offer-items.result.now _ same c.as_slice-offer-items.ensures.value kept
    (slice_get-get_or c.as_slice-offer-items.result.now c.loop-offer.offer-index _ c.loop-offer-test.true)

pub loop-offer-preserved : goal.loop-offer-preserved
loop-offer-preserved g c =
    let E = g.L.LaneEnd in
    let End : Type 0 = g.row.L.Denot in
    let i = c.loop-offer.invariant in
    let e = c.serve_given.ensures in
    let on : c.loop-offer.segment.stopped ≡ false = sym c.stopped.ensures ∙ c.if-stopped.false in
    record {
      spare = omega (arith, i.spare, e.spare);
      quiet = λ same still.
          retries_more {End = End} c.args.board.now c.args.segment.now.bus c.loop-offer.segment.bus c.serve_given.new.segment.bus c.args.segment.now.ends.items c.loop-offer.segment.ends.items c.serve_given.new.segment.ends.items c.args.place c.loop-offer.offer-index (c.loop-offer.offer-index + 1) c.as_slice-offer-items.result.now _ i.works.shape refl
          (slice_get-get_or c.as_slice-offer-items.result.now c.loop-offer.offer-index _ c.loop-offer-test.true)
          (i.quiet (omega (arith, i.works.grows, e.works.grows, same)) on) (e.quiet (omega (arith, i.works.grows, e.works.grows, same)) still);
      works = works_further {End = End} E.had E.sent E.got E.kept E.paired c.args.board.now c.loop-offer.offer-index 1 (seen c.args.segment.now.bus c.args.segment.now.stamp c.args.segment.now.stopped) (seen c.loop-offer.segment.bus c.loop-offer.segment.stamp c.loop-offer.segment.stopped) (seen c.serve_given.new.segment.bus c.serve_given.new.segment.stamp c.serve_given.new.segment.stopped)
          c.args.segment.now.ends.items c.loop-offer.segment.ends.items c.serve_given.new.segment.ends.items c.args.segment.now.events.items c.loop-offer.segment.events.items c.serve_given.new.segment.events.items c.requires.going on i.works e.works;
    }

pub returns-clause-quiet : goal.returns-clause-quiet
returns-clause-quiet g c = λ same on.
    let End : Type 0 = g.row.L.Denot in
    let offers = subst (λ (s : BusView). BusOffers c.args.place s c.offers-offers.result.items) c.bus.ensures c.offers-offers.ensures.offers in
    let all = take_all c.loop-offer.offer-index c.as_slice-offer-items.result.now c.loop-offer-test.false ∙ c.as_slice-offer-items.ensures.value in
    let quiet = subst (λ (l : List Offer). Retries {End = End} c.args.board.now c.args.segment.now.bus c.loop-offer.segment.bus c.args.segment.now.ends.items c.loop-offer.segment.ends.items (IsAmong (shape_of c.args.segment.now.bus) c.args.place l)) all (c.loop-offer.invariant.quiet same on) in
    retries_port {End = End} c.args.board.now c.args.segment.now.bus c.loop-offer.segment.bus c.args.segment.now.ends.items c.loop-offer.segment.ends.items c.args.place c.offers-offers.result.items offers quiet
