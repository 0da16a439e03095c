use Rattle.std.proofs.Common.{◌≡◌, Option, None, refl, ap, subst, sym, ◌∙◌}
use Rattle.board_model.specs.declared.board.Board.{Board}
use Rattle.board_model.specs.declared.bridge.Place.TheVariants.{Target, Header, Lane, Nobody}
use Rattle.board_model.specs.Claims.{claim}
use Rattle.history_model.specs.declared.item.Answer.{Answer}
use Rattle.history_model.specs.Answers.{header_answer, bridge_to}
use Rattle.bus_agents.specs.Through.{count_in}
use Rattle.bus_core.specs.declared.given.Given.{Given}
use Rattle.bus_core.specs.declared.given.Sent.{Sent}
use Rattle.bus_core.specs.Bus.{BusView}
use Rattle.bus_core.specs.Parts.{IsRest, PlaceAnswers, PlaceTurns, RequestAnswers, RequestTurns}
use Rattle.bus_core.proofs.ListLemmas.{if_some, if_none}
use Rattle.bus_core.proofs.RequestLemmas.{request_answers, request_turns, nobody_claims, header_claims}
use Rattle.bus_core.proofs.bus.Bus.answer_request.Goals as goal

pub returns-in-Target-clause-answers : goal.returns-in-Target-clause-answers
returns-in-Target-clause-answers c =
    let left = subst (λ (s : BusView). IsRest (count_in s.through c.args.op) c.args.request.now c.rest_of-rest.result) c.self.view_is
    (subst (λ n. IsRest n c.args.request.now c.rest_of-rest.result) c.of.ensures c.rest_of-rest.ensures.rest) in
    let claims = subst (λ (s : BusView). claim c.args.board.now s.bus c.rest_of-rest.result ≡ Target c.in-Target.target) c.self.view_is (sym c.claim_on.ensures ∙ c.in-Target.is) in
    let answers = subst (λ (b : Board). PlaceAnswers b c.args.self.now (Target c.in-Target.target) c.args.line c.args.op c.args.request.now c.rest_of-rest.result c.target_answer.result.answer c.target_answer.result.over c.target_answer.new.self) c.board-plain.ensures.value
    (c.target_answer.ensures.answers c.args.line c.args.request.now) in
    request_answers c.args.board.now c.args.self.now (Target c.in-Target.target) c.args.line c.args.op c.args.request.now c.rest_of-rest.result c.target_answer.result.answer c.target_answer.result.over c.target_answer.new.self
    c.requires left claims answers

pub returns-in-Header-clause-answers : goal.returns-in-Header-clause-answers
returns-in-Header-clause-answers c =
    let left = subst (λ (s : BusView). IsRest (count_in s.through c.args.op) c.args.request.now c.rest_of-rest.result) c.self.view_is
    (subst (λ n. IsRest n c.args.request.now c.rest_of-rest.result) c.of.ensures c.rest_of-rest.ensures.rest) in
    let claims = subst (λ (s : BusView). claim c.args.board.now s.bus c.rest_of-rest.result ≡ Header c.in-Header.bus) c.self.view_is (sym c.claim_on.ensures ∙ c.in-Header.is) in
    let told = c.header_given.ensures.answer ∙ ap (λ (b : Board). header_answer c.in-Header.bus c.rest_of-rest.result (bridge_to b c.in-Header.bus)) c.board-plain.ensures.value in
    let P : Answer → Option Sent → Type 0 = λ answer over. PlaceAnswers c.args.board.now c.args.self.now (Header c.in-Header.bus) c.args.line c.args.op c.args.request.now c.rest_of-rest.result answer over c.args.self.now in
    let answers = subst (λ over. P c.header_given.result.answer over) (sym c.header_given.ensures.none)
    (subst (λ answer. P answer None) (sym told) (header_claims c.args.board.now c.args.self.now c.in-Header.bus c.args.line c.args.op c.args.request.now c.rest_of-rest.result)) in
    request_answers c.args.board.now c.args.self.now (Header c.in-Header.bus) c.args.line c.args.op c.args.request.now c.rest_of-rest.result c.header_given.result.answer c.header_given.result.over c.args.self.now
    c.requires left claims answers

pub returns-in-Lane-clause-answers : goal.returns-in-Lane-clause-answers
returns-in-Lane-clause-answers c =
    let left = subst (λ (s : BusView). IsRest (count_in s.through c.args.op) c.args.request.now c.rest_of-rest.result) c.self.view_is
    (subst (λ n. IsRest n c.args.request.now c.rest_of-rest.result) c.of.ensures c.rest_of-rest.ensures.rest) in
    let claims = subst (λ (s : BusView). claim c.args.board.now s.bus c.rest_of-rest.result ≡ Lane c.in-Lane.lane) c.self.view_is (sym c.claim_on.ensures ∙ c.in-Lane.is) in
    let P : Given → Type 0 = λ given. PlaceAnswers c.args.board.now c.args.self.now (Lane c.in-Lane.lane) c.args.line c.args.op c.args.request.now c.rest_of-rest.result given.answer given.over c.lane_answer.new.self in
    let Q : Given → Type 0 = λ given. RequestAnswers c.args.board.now c.args.self.now c.args.line c.args.op c.args.request.now given.answer given.over c.lane_answer.new.self in
    if_some P Q (λ given answers. request_answers c.args.board.now c.args.self.now (Lane c.in-Lane.lane) c.args.line c.args.op c.args.request.now c.rest_of-rest.result given.answer given.over c.lane_answer.new.self c.requires left claims answers)
    c.lane_answer.result (c.lane_answer.ensures.answers c.args.board.now c.rest_of-rest.result)

pub returns-in-Lane-clause-turns : goal.returns-in-Lane-clause-turns
returns-in-Lane-clause-turns c =
    let left = subst (λ (s : BusView). IsRest (count_in s.through c.args.op) c.args.request.now c.rest_of-rest.result) c.self.view_is
    (subst (λ n. IsRest n c.args.request.now c.rest_of-rest.result) c.of.ensures c.rest_of-rest.ensures.rest) in
    let claims = subst (λ (s : BusView). claim c.args.board.now s.bus c.rest_of-rest.result ≡ Lane c.in-Lane.lane) c.self.view_is (sym c.claim_on.ensures ∙ c.in-Lane.is) in
    if_none (PlaceTurns c.args.board.now c.args.self.now (Lane c.in-Lane.lane) c.args.line c.args.op c.args.request.now c.rest_of-rest.result) (RequestTurns c.args.board.now c.args.self.now c.args.line c.args.op c.args.request.now)
    (λ turns. request_turns c.args.board.now c.args.self.now (Lane c.in-Lane.lane) c.args.line c.args.op c.args.request.now c.rest_of-rest.result c.requires left claims turns)
    c.lane_answer.result (c.lane_answer.ensures.turns c.args.board.now c.rest_of-rest.result)

pub returns-in-Nobody-clause-answers : goal.returns-in-Nobody-clause-answers
returns-in-Nobody-clause-answers c =
    let left = subst (λ (s : BusView). IsRest (count_in s.through c.args.op) c.args.request.now c.rest_of-rest.result) c.self.view_is
    (subst (λ n. IsRest n c.args.request.now c.rest_of-rest.result) c.of.ensures c.rest_of-rest.ensures.rest) in
    let claims = subst (λ (s : BusView). claim c.args.board.now s.bus c.rest_of-rest.result ≡ Nobody) c.self.view_is (sym c.claim_on.ensures ∙ c.in-Nobody.is) in
    let answers = subst (λ (g : Given). PlaceAnswers c.args.board.now c.args.self.now Nobody c.args.line c.args.op c.args.request.now c.rest_of-rest.result g.answer g.over c.args.self.now) (sym c.nobody.ensures)
    (nobody_claims c.args.board.now c.args.self.now c.args.line c.args.op c.args.request.now c.rest_of-rest.result) in
    request_answers c.args.board.now c.args.self.now Nobody c.args.line c.args.op c.args.request.now c.rest_of-rest.result c.nobody.result.answer c.nobody.result.over c.args.self.now
    c.requires left claims answers

pub returns-in-Header-clause-retried : goal.returns-in-Header-clause-retried
returns-in-Header-clause-retried c = record { stays = λ cause is. refl }

pub returns-in-Nobody-clause-retried : goal.returns-in-Nobody-clause-retried
returns-in-Nobody-clause-retried c = record { stays = λ cause is. refl }
