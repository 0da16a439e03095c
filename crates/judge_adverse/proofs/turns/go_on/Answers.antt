use Rattle.std.proofs.Common.{◌∷◌, ◌≡◌, ◌∙◌, ℕ, ap, subst}
use Rattle.board_model.specs.declared.board.Board.{Board}
use Rattle.history_model.specs.declared.event.Event.{Event}
use Rattle.history_model.specs.Local.{bus_of}
use Rattle.history_model.specs.Runs.{Run}
use Rattle.judge_next.specs.Course.{IsCourse}
use Rattle.judge_next.proofs.CourseLemmas.{allowed_is_ok}
use Rattle.law_delivered.specs.Laws.{LawsOfRun}
use Rattle.judge_adverse.specs.Turns.{MayCome, IsWoken}
use Rattle.judge_adverse.proofs.IdleLemmas.{woken_knows}
use Rattle.judge_adverse.proofs.TurnsLemmas.{went_on, stopped, none_holds, woken_is_ring}
use Rattle.judge_adverse.proofs.turns.go_on.Goals as goal

pub returns-clause-goes : goal.returns-clause-goes
returns-clause-goes c = λ h is known.
    let board : Board = c.args.tree.now in
    let e : Event = c.in_ok-event.event in
    let laws : LawsOfRun board h = c.laws_of_runs.ensures board h c.board-board.ensures.valid is.stands.run in
    let may : MayCome board h c.args.held e = c.in_ok-event.ensures.found h is in
    let course_is : IsCourse board (e ∷ h) c.step-ok.new.self = allowed_is_ok board h e c.step-ok.result _ may.0 (c.step-ok.ensures.verdict h is) (c.step-ok.ensures.goes_on h is) in
    went_on board h c.args.held c.step-ok.new.self e is.stands.run laws may course_is

-- what was done on one bus leaves what is known of the others
pub returns-clause-knows : goal.returns-clause-knows
returns-clause-knows c = λ h is known.
    let board : Board = c.args.tree.now in
    let e : Event = c.in_ok-event.event in
    let may : MayCome board h c.args.held e = c.in_ok-event.ensures.found h is in
    let run : Run board (e ∷ h) = (may.0, is.stands.run) in
    let bus_is : c.bus_of.result ≡ bus_of board e = c.bus_of.ensures ∙ ap (λ (b : Board). bus_of b e) c.board-board.ensures.value in
    let woken = subst (λ (bus : ℕ). IsWoken bus c.next_event.new.ring.initiators.items c.next_event.new.ring.idle.items c.wake.new.self.idle.items) bus_is c.wake.ensures.woken in
    woken_knows board h e c.next_event.new.ring c.wake.new.self (λ bus apart. c.other_buses_stay.ensures board h e bus c.board-board.ensures.valid run apart)
    (c.in_ok-event.ensures.knows h is known) c.wake.ensures.initiators woken

pub returns-in_err-event-clause-goes : goal.returns-in_err-event-clause-goes
returns-in_err-event-clause-goes c = λ h is known.
    stopped c.args.tree.now h c.args.held _ c.from_residual.result c.from_residual.ensures (c.in_err-event.ensures.none h is known) (c.laws_of_runs.ensures c.args.tree.now h c.board-board.ensures.valid is.stands.run)

pub returns-in_err-event-clause-knows : goal.returns-in_err-event-clause-knows
returns-in_err-event-clause-knows c = λ h is known. none_holds c.from_residual.result _ c.from_residual.ensures

pub returns-clause-ring : goal.returns-clause-ring
returns-clause-ring c = woken_is_ring c.args.tree.now c.bus_of.result c.next_event.new.ring c.wake.new.self c.next_event.ensures.ring c.wake.ensures.initiators c.wake.ensures.place c.wake.ensures.woken
