use Rattle.std.proofs.Common.{◌≡◌, Some, None, refl, ap, subst, sym, ◌∙◌}
use Rattle.board_model.specs.declared.board.Board.{Board}
use Rattle.board_model.specs.Requests.{request_of}
use Rattle.bus_core.specs.declared.given.Given.{Given}
use Rattle.bus_core.specs.Bus.{BusView}
use Rattle.bus_core.specs.Calls.{BusAnswers, TurnsBack}
use Rattle.bus_core.specs.Parts.{RequestAnswers, RequestTurns}
use Rattle.bus_core.proofs.ListLemmas.{if_some, if_none}
use Rattle.bus_core.proofs.RequestLemmas.{bus_answers, bus_turns, no_request}
use Rattle.bus_core.proofs.bus.Bus.answer.Goals as goal

pub returns-in-Some-clause-answers : goal.returns-in-Some-clause-answers
returns-in-Some-clause-answers c =
    let is = subst (λ (s : BusView). request_of c.args.board.now c.args.op s.bus ≡ Some c.in-Some.request) c.self.view_is (sym (c.request_of.ensures ∙ ap (λ (b : Board). request_of b c.args.op c.self.inside.bus) c.board.ensures.value) ∙ c.in-Some.is) in
    let P : Given → Type 0 = λ given. RequestAnswers c.args.board.now c.args.self.now c.args.line c.args.op c.in-Some.request given.answer given.over c.answer_request.new.self in
    let Q : Given → Type 0 = λ given. BusAnswers c.args.board.now c.args.self.now c.args.line c.args.op given.answer given.over c.answer_request.new.self in
    if_some P Q (λ given answers. bus_answers c.args.board.now c.args.self.now c.args.line c.args.op c.in-Some.request given.answer given.over c.answer_request.new.self is answers) c.answer_request.result c.answer_request.ensures.answers

pub returns-in-Some-clause-turns : goal.returns-in-Some-clause-turns
returns-in-Some-clause-turns c =
    let is = subst (λ (s : BusView). request_of c.args.board.now c.args.op s.bus ≡ Some c.in-Some.request) c.self.view_is (sym (c.request_of.ensures ∙ ap (λ (b : Board). request_of b c.args.op c.self.inside.bus) c.board.ensures.value) ∙ c.in-Some.is) in
    if_none (RequestTurns c.args.board.now c.args.self.now c.args.line c.args.op c.in-Some.request) (TurnsBack c.args.board.now c.args.self.now c.args.line c.args.op)
    (λ turns. bus_turns c.args.board.now c.args.self.now c.args.line c.args.op c.in-Some.request is turns) c.answer_request.result c.answer_request.ensures.turns

pub returns-in-None-clause-answers : goal.returns-in-None-clause-answers
returns-in-None-clause-answers c =
    let none = subst (λ (s : BusView). request_of c.args.board.now c.args.op s.bus ≡ None) c.self.view_is (sym (c.request_of.ensures ∙ ap (λ (b : Board). request_of b c.args.op c.self.inside.bus) c.board.ensures.value) ∙ c.in-None.is) in
    subst (λ (g : Given). BusAnswers c.args.board.now c.args.self.now c.args.line c.args.op g.answer g.over c.args.self.now) (sym c.nobody.ensures)
    (no_request c.args.board.now c.args.self.now c.args.line c.args.op none)

pub returns-in-None-clause-retried : goal.returns-in-None-clause-retried
returns-in-None-clause-retried c = record { stays = λ cause is. refl }
