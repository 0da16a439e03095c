use Rattle.std.proofs.Common.{◌≡◌, ◌+◌, List, None, ap, subst, sym, ◌∙◌, arith}
use Rattle.std.proofs.lemmas.List.{with_items_is}
use Rattle.std.specs.Prelude.{IsTrue}
use Rattle.board_model.specs.Limits.{most_ports}
use Rattle.board_model.specs.declared.board.Board.{Board}
use Rattle.board_model.specs.WellFormed.{is_well_formed}
use Rattle.history_model.specs.declared.event.By.TheVariants.{Master}
use Rattle.history_model.specs.declared.event.Event.TheVariants.{Act}
use Rattle.history_model.specs.declared.item.Answer.{Answer}
use Rattle.history_model.specs.declared.item.Answer.TheVariants.{Gives}
use Rattle.bus_agents.specs.Turns.{MasterView}
use Rattle.bus_core.specs.declared.given.Served.TheVariants.{Retried, TurnsBack as Back}
use Rattle.bus_core.specs.Bus.{BusView, Shape}
use Rattle.bus_core.specs.Calls.{BusAnswers}
use Rattle.bus_core.specs.Places.{TellsMaster}
use Rattle.bus_core.specs.Serves.{BusPresents}
use Rattle.bus_core.proofs.TellLemmas.{master_turns, master_retried, master_did}
use Rattle.bus_core.proofs.bus.Bus.serve_turn.Goals as goal

pub tell_master-requires-clause-formed : goal.tell_master-requires-clause-formed
tell_master-requires-clause-formed c = subst (λ (b : Board). IsTrue (is_well_formed b)) (sym c.board-plain.ensures.value) c.requires.formed

pub returns-in-None-clause-serves : goal.returns-in-None-clause-serves
returns-in-None-clause-serves c = λ master there turn.
    master_turns c.args.board.now c.args.self.now c.args.place master c.args.op there turn c.in-None.ensures.turns

pub returns-in-Retry-clause-serves : goal.returns-in-Retry-clause-serves
returns-in-Retry-clause-serves c = λ master there turn.
    let answers = subst (λ (a : Answer). BusAnswers c.args.board.now c.args.self.now (most_ports + c.args.place) c.args.op a c.in-Some.given.over c.answer.new.self) c.in-Retry.is c.in-Some.ensures.answers in
    (c.in-Retry.cause, master_retried c.args.board.now c.args.self.now c.answer.new.self c.args.place master c.args.op c.in-Retry.cause c.in-Some.given.over there turn answers)

pub returns-in-Gives-clause-serves : goal.returns-in-Gives-clause-serves
returns-in-Gives-clause-serves c = λ master there turn.
    let mid : BusView = record { bus = c.self.inside.bus; ports = c.self.inside.ports.items; masters = c.self.inside.masters.items; targets = c.self.inside.targets.items; through = c.self.inside.through } in
    let new : List MasterView → BusView = λ masters. record { bus = c.self.inside.bus; ports = c.self.inside.ports.items; masters = masters; targets = c.self.inside.targets.items; through = c.self.inside.through } in
    let answers = subst (λ (a : Answer). BusAnswers c.args.board.now c.args.self.now (most_ports + c.args.place) c.args.op a c.in-Some.given.over c.answer.new.self) c.in-Gives.is c.in-Some.ensures.answers in
    let mid_answers = subst (λ (s : BusView). BusAnswers c.args.board.now c.args.self.now (most_ports + c.args.place) c.args.op (Gives c.in-Gives.step c.in-Gives.at) c.in-Some.given.over s) (sym c.self.view_is) answers in
    let told = subst (λ (ms : List MasterView). TellsMaster c.board-plain.result.now c.args.place c.in-Gives.step ms c.tell_master.new.masters) c.as_mut_slice.ensures.value c.tell_master.ensures in
    let tells = subst (λ (b : Board). TellsMaster b c.args.place c.in-Gives.step mid.masters c.tell_master.new.masters) c.board-plain.ensures.value told in
    let same : mid.masters ≡ c.args.self.now.masters = ap (λ (s : BusView). s.masters) c.self.view_is ∙ c.in-Some.ensures.masters in
    let items = with_items_is c.self.inside.masters c.tell_master.new.masters (omega arith) in
    let bus : c.self.inside.bus ≡ c.args.self.now.bus = ap (λ (s : BusView). s.bus) c.self.view_is ∙ ap (λ (s : Shape). s.bus) c.in-Some.ensures.shape in
    let base = master_did c.args.board.now c.args.self.now mid c.tell_master.new.masters c.args.place master c.args.op c.in-Gives.step c.in-Gives.at c.in-Some.given.over there turn mid_answers same tells in
    record {
      step = c.in-Gives.step;
      place = c.in-Gives.at;
      event = ap (λ n. Act n Master c.args.op c.in-Gives.step c.in-Gives.at) bus;
      presents = subst (λ (masters : List MasterView). BusPresents c.args.board.now Master c.args.op c.args.self.now (Gives c.in-Gives.step c.in-Gives.at) c.in-Some.given.over None (new masters)) (sym items) base;
    }

pub returns-in-None-clause-retried : goal.returns-in-None-clause-retried
returns-in-None-clause-retried c = λ is. let wrong : Back ≡ Retried = is in cc

pub returns-in-Retry-clause-retried : goal.returns-in-Retry-clause-retried
returns-in-Retry-clause-retried c = λ is. c.in-Some.ensures.retried.stays c.in-Retry.cause c.in-Retry.is

pub returns-in-Gives-clause-retried : goal.returns-in-Gives-clause-retried
returns-in-Gives-clause-retried c = λ is. cc
