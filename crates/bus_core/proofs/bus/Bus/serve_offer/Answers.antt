use Rattle.std.proofs.Common.{◌≡◌, Option, Some, IfSome, ap, subst, ◌∙◌, slice_get}
use Rattle.std.specs.List.{Contains}
use Rattle.board_model.specs.declared.board.Board.{Board}
use Rattle.board_model.specs.declared.bridge.Lane.{Lane as BridgeLane}
use Rattle.history_model.specs.declared.event.By.TheVariants.{Lane as ByLane}
use Rattle.history_model.specs.declared.event.Event.TheVariants.{Act}
use Rattle.history_model.specs.declared.item.Answer.{Answer}
use Rattle.bus_face.specs.Offers.{offers_of}
use Rattle.bus_core.specs.port.Port.{PortView}
use Rattle.bus_core.specs.declared.given.Served.TheVariants.{Retried, TurnsBack as Back}
use Rattle.bus_core.specs.Bus.{BusView, Shape}
use Rattle.bus_core.specs.Calls.{BusAnswers}
use Rattle.bus_core.specs.Parts.{TellsLane}
use Rattle.bus_core.proofs.OfferLemmas.{offer_turns, offer_retried, offer_did}
use Rattle.bus_core.proofs.bus.Bus.serve_offer.Goals as goal

pub returns-in-None-clause-serves : goal.returns-in-None-clause-serves
returns-in-None-clause-serves c = λ port there.
    let offered = subst (λ (found : Option PortView). IfSome found (λ one. Contains (offers_of one.face) c.args.offer.now)) there c.requires.offered in
    offer_turns c.args.board.now c.args.self.now c.args.place port c.args.offer.now there offered c.in-None.ensures.turns

pub returns-in-Retry-clause-serves : goal.returns-in-Retry-clause-serves
returns-in-Retry-clause-serves c = λ port there.
    let offered = subst (λ (found : Option PortView). IfSome found (λ one. Contains (offers_of one.face) c.args.offer.now)) there c.requires.offered in
    let answers = subst (λ (a : Answer). BusAnswers c.args.board.now c.args.self.now c.args.place c.args.offer.now.op a c.in-Some.given.over c.answer.new.self) c.in-Retry.is c.in-Some.ensures.answers in
    (c.in-Retry.cause, offer_retried c.args.board.now c.args.self.now c.answer.new.self c.args.place port c.args.offer.now c.in-Retry.cause c.in-Some.given.over there offered answers)

pub returns-in-Gives-clause-serves : goal.returns-in-Gives-clause-serves
returns-in-Gives-clause-serves c = λ port there.
    let offered = subst (λ (found : Option PortView). IfSome found (λ one. Contains (offers_of one.face) c.args.offer.now)) there c.requires.offered in
    let answers = subst (λ (a : Answer). BusAnswers c.args.board.now c.args.self.now c.args.place c.args.offer.now.op a c.in-Some.given.over c.answer.new.self) c.in-Gives.is c.in-Some.ensures.answers in
    let here : slice_get c.answer.new.self.ports c.args.place ≡ Some port = c.in-Some.ensures.presenter ∙ there in
    let lane : c.lane_of-lane.result ≡ port.lane = subst (λ (found : Option PortView). IfSome found (λ one. c.lane_of-lane.result ≡ one.lane)) here c.lane_of-lane.ensures in
    let tells = subst (λ (b : Board). TellsLane b c.args.place c.args.offer.now c.in-Gives.step c.answer.new.self c.tell_lane-back.result c.tell_lane-back.new.self) c.board-plain.ensures.value c.tell_lane-back.ensures.tells in
    let bus : c.self.inside.bus ≡ c.args.self.now.bus = ap (λ (s : BusView). s.bus) c.self.view_is ∙ (ap (λ (s : Shape). s.bus) c.tell_lane-back.ensures.shape ∙ ap (λ (s : Shape). s.bus) c.in-Some.ensures.shape) in
    record {
      step = c.in-Gives.step;
      place = c.in-Gives.at;
      event = ap (λ n. Act n (ByLane c.lane_of-lane.result) c.args.offer.now.op c.in-Gives.step c.in-Gives.at) bus
          ∙ ap (λ (l : BridgeLane). Act c.args.self.now.bus (ByLane l) c.args.offer.now.op c.in-Gives.step c.in-Gives.at) lane;
      presents = offer_did c.args.board.now c.args.self.now c.answer.new.self c.tell_lane-back.new.self c.args.place port c.args.offer.now c.in-Gives.step c.in-Gives.at c.in-Some.given.over c.tell_lane-back.result there offered answers
          c.in-Some.ensures.shape c.in-Some.ensures.masters c.in-Some.ensures.presenter c.tell_lane-back.ensures.shape tells;
    }

pub returns-in-None-clause-retried : goal.returns-in-None-clause-retried
returns-in-None-clause-retried c = λ is. let wrong : Back ≡ Retried = is in cc

pub returns-in-Retry-clause-retried : goal.returns-in-Retry-clause-retried
returns-in-Retry-clause-retried c = λ is. c.in-Some.ensures.retried.stays c.in-Retry.cause c.in-Retry.is

pub returns-in-Gives-clause-retried : goal.returns-in-Gives-clause-retried
returns-in-Gives-clause-retried c = λ is. cc
