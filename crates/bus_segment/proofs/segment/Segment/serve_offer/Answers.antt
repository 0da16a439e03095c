use Rattle.std.proofs.Common.{ap, sym, subst, ◌∙◌}
use Rattle.history_model.specs.declared.event.By.TheVariants.{Lane as ByLane}
use Rattle.bus_core.specs.Bus.{BusView, shape_of}
use Rattle.bus_core.specs.Serves.{Serves}
use Rattle.bus_segment.specs.Steps.{StampsRise}
use Rattle.bus_segment.proofs.DoesLemmas.{offer_does, there_at}
use Rattle.bus_segment.proofs.StepLemmas.{finishes_stamps, finishes_most}
use Rattle.bus_segment.proofs.RetryLemmas.{offer_retries}
use Rattle.bus_segment.proofs.segment.Segment.serve_offer.Goals as goal

pub returns-clause-does : goal.returns-clause-does
returns-clause-does g c =
    let E = g.L.LaneEnd in
    let served = c.serve_offer-presented in
    let shape = ap shape_of c.finish.ensures.bus ∙ served.ensures.shape in
    let port = there_at c.args.self.now.bus.ports c.args.place c.requires.place in
    let serves = subst (λ (s : BusView). Serves c.args.board.now (ByLane port.0.lane) c.args.offer.now.op c.args.self.now.bus served.result s) (sym c.finish.ensures.bus) (served.ensures.serves port.0 port.1) in
    offer_does E.had E.sent E.got E.kept E.paired c.args.board.now c.args.self.now.bus c.finish.new.self.bus c.args.self.now.stamp c.args.self.now.ends.items c.args.self.now.events.items shape
    c.args.place port.0 c.args.offer.now.op served.result c.finish.new.self.stopped c.finish.new.self.ends.items c.finish.new.self.events.items port.1 serves served.ensures.stamped c.requires.ends c.finish.ensures.finishes

pub returns-clause-stamps : goal.returns-clause-stamps
returns-clause-stamps g c =
    let E = g.L.LaneEnd in
    let End : Type 0 = g.row.L.Denot in
    let served = c.serve_offer-presented in
    subst (λ n. StampsRise {End = End} E.sent E.got c.args.self.now.stamp n c.args.self.now.ends.items c.finish.new.self.ends.items) (sym c.finish.ensures.stamp)
    (finishes_stamps {End = End} E.had E.sent E.got E.kept E.paired served.result c.args.self.now.stamp c.args.self.now.ends.items c.finish.new.self.ends.items c.args.self.now.events.items c.finish.new.self.events.items c.finish.new.self.stopped
    c.finish.ensures.finishes served.ensures.stamped)

pub returns-clause-most : goal.returns-clause-most
returns-clause-most g c =
    let E = g.L.LaneEnd in
    let End : Type 0 = g.row.L.Denot in
    finishes_most {End = End} E.had E.sent E.got E.kept E.paired c.serve_offer-presented.result c.args.self.now.stamp c.args.self.now.ends.items c.finish.new.self.ends.items c.args.self.now.events.items c.finish.new.self.events.items
    c.finish.new.self.stopped c.finish.ensures.finishes

pub returns-clause-quiet : goal.returns-clause-quiet
returns-clause-quiet g c = λ same on.
    let E = g.L.LaneEnd in
    let End : Type 0 = g.row.L.Denot in
    let served = c.serve_offer-presented in
    let port = there_at c.args.self.now.bus.ports c.args.place c.requires.place in
    let serves = subst (λ (s : BusView). Serves c.args.board.now (ByLane port.0.lane) c.args.offer.now.op c.args.self.now.bus served.result s) (sym c.finish.ensures.bus) (served.ensures.serves port.0 port.1) in
    offer_retries {End = End} E.had E.sent E.got E.kept E.paired c.args.board.now c.args.self.now.bus c.finish.new.self.bus c.args.place port.0 c.args.offer.now.op served.result c.args.self.now.stamp c.args.self.now.ends.items c.finish.new.self.ends.items
    c.args.self.now.events.items c.finish.new.self.events.items c.finish.new.self.stopped port.1 serves (λ is. c.finish.ensures.bus ∙ served.ensures.retried is) c.finish.ensures.finishes same on
