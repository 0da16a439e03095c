use Rattle.std.proofs.Common.{◌≡◌, Option, Some, None, ap, subst, sym, ◌∙◌}
use Rattle.std.specs.Prelude.{IfSome, IfNone}
use Rattle.board_model.specs.declared.board.Board.{Board}
use Rattle.board_model.specs.declared.bridge.Lane.{Lane as BridgeLane}
use Rattle.history_model.specs.declared.event.Event.{Event}
use Rattle.history_model.specs.declared.event.Event.TheVariants.{Arrive}
use Rattle.history_model.specs.declared.event.Mark.{Mark}
use Rattle.history_model.specs.Runs.{Allowed}
use Rattle.history_model.specs.Next.{first_bus, first_arrival}
use Rattle.judge_state.specs.State.{KeptState}
use Rattle.judge_next.specs.Now.{arrival_on}
use Rattle.judge_next.specs.Course.{IsCourse, IsArrival}
use Rattle.judge_next.specs.Flights.{KnowsFlights}
use Rattle.judge_next.proofs.SameLemmas.{first_arrival_same}
use Rattle.judge_next.proofs.AllowedLemmas.{first_arrives, arrival_allowed, arrival_none}
use Rattle.judge_next.proofs.course.Course.next_arrival.Goals as goal

pub first-requires : goal.first-requires
first-requires c =
    let course : IsCourse c.args.tree.now c.requires.0 c.args.self.now = c.requires.1 in
    subst (λ (board : Board). KnowsFlights board c.args.self.now.kept c.args.self.now.flights) (sym c.board.ensures.value) course.flights

pub returns-clause-first : goal.returns-clause-first
returns-clause-first c = λ h is.
    let k : KeptState = c.args.self.now.kept in
    let first : Board → Option Event = λ board. first_bus (arrival_on board k) in
    c.first.ensures ∙ (ap first c.board.ensures.value ∙ first_arrival_same c.args.tree.now h k is.stands)

pub returns-clause-arrives : goal.returns-clause-arrives
returns-clause-arrives c =
    subst (λ (some : Option Event). IfSome some IsArrival) (sym c.first.ensures) (first_arrives c.board.result.now c.args.self.now.kept)

pub returns-clause-allowed : goal.returns-clause-allowed
returns-clause-allowed c = λ h is.
    subst (λ (some : Option Event). IfSome some (Allowed c.args.tree.now h)) (sym (returns-clause-first c h is)) (arrival_allowed c.args.tree.now h)

pub returns-clause-none : goal.returns-clause-none
returns-clause-none c = λ h is.
    let Still : Type 0 = (lane : BridgeLane) (mark : Mark) → Allowed c.args.tree.now h (Arrive lane mark) → ⊥ in
    let P : Option Event → Type 0 = λ found. found ≡ first_arrival c.args.tree.now h → IfNone found Still in
    (elim c.first.result as P [
      | None ↦ λ none. arrival_none c.args.tree.now h is.stands.run is.fits (sym none)
      | Some e ↦ λ _. tt
    ]) (returns-clause-first c h is)
