use Rattle.std.proofs.Common.{◌≡◌, ◌↔◌, Option, None, ap, subst, sym, ◌∙◌}
use Rattle.std.specs.Prelude.{IfSome, List}
use Rattle.std.specs.Option.{option_or}
use Rattle.board_model.specs.declared.board.Board.{Board}
use Rattle.history_model.specs.declared.event.Event.{Event}
use Rattle.history_model.specs.Runs.{Allowed, Complete}
use Rattle.history_model.specs.Next.{first_bus}
use Rattle.judge_state.specs.State.{KeptState}
use Rattle.judge_next.specs.Lines.{BusLines, AreLines}
use Rattle.judge_next.specs.Now.{arrival_on, act_on_now}
use Rattle.judge_next.specs.Course.{IsCourse}
use Rattle.judge_next.specs.Flights.{KnowsFlights}
use Rattle.judge_next.proofs.SameLemmas.{next_same}
use Rattle.judge_next.proofs.course.Course.next.Goals as goal

pub next_now-requires-clause-lines : goal.next_now-requires-clause-lines
next_now-requires-clause-lines c =
    let course : IsCourse c.args.tree.now c.requires.0 c.args.self.now = c.requires.1 in
    subst (λ (board : Board). AreLines board c.as_slice-lines.result.now) (sym c.board-board.ensures.value)
    (subst (λ (lines : List BusLines). AreLines c.args.tree.now lines) (sym c.as_slice-lines.ensures.value) course.lines)

pub next_now-requires-clause-flights : goal.next_now-requires-clause-flights
next_now-requires-clause-flights c =
    let course : IsCourse c.args.tree.now c.requires.0 c.args.self.now = c.requires.1 in
    subst (λ (board : Board). KnowsFlights board c.args.self.now.kept c.args.self.now.flights) (sym c.board-board.ensures.value) course.flights

pub returns-clause-next : goal.returns-clause-next
returns-clause-next c = λ h is.
    let k : KeptState = c.args.self.now.kept in
    let first : Board → Option Event = λ board. option_or (first_bus (arrival_on board k)) (first_bus (act_on_now board k)) in
    c.next_now.ensures.value ∙ (ap first c.board-board.ensures.value ∙ next_same c.args.tree.now h k is.stands)

pub returns-clause-allowed : goal.returns-clause-allowed
returns-clause-allowed c = λ h is.
    subst (λ (some : Option Event). IfSome some (Allowed c.args.tree.now h)) (sym (returns-clause-next c h is)) (c.next_goes_on.ensures.allowed c.args.tree.now h)

pub returns-clause-complete : goal.returns-clause-complete
returns-clause-complete c = λ h is.
    subst (λ (some : Option Event). (some ≡ None) ↔ Complete c.args.tree.now h) (sym (returns-clause-next c h is))
    (c.next_goes_on.ensures.complete c.args.tree.now h c.board-board.ensures.valid is.fits is.stands.run)
