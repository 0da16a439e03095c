-- A run that goes on by acts, with all arrivals behind each.
use Rattle.std.proofs.Common.{◌≡◌, ◌+◌, ◌<◌, ◌≤◌, List, [], ◌∷◌, refl, sym, subst, arith}
use Rattle.board_model.specs.declared.board.Board.{Board}
use Rattle.history_model.specs.declared.event.Event.{Event}
use Rattle.history_model.specs.declared.rule.Rule.TheVariants.{Tagged}
use Rattle.history_model.specs.Runs.{history_of}
use Rattle.history_model.specs.Left.{left_of}
use Rattle.law_early.specs.Early.{NothingFlies}
use Rattle.judge_next.specs.declared.course.Course.{Course}
use Rattle.judge_next.specs.Course.{IsCourse}
use Rattle.observe_told.specs.declared.woven.Woven.{Woven}
use Rattle.observe_told.specs.Woven.{events_of, GoesOn}
use Rattle.observe_order.specs.Going.{EndsLanded, IsGoing, HasLanded}

-- before the first act nothing is in flight
pub begins : (board : Board) (woven : Woven) (course : Course) → woven.strands.items ≡ [] → woven.acts.items ≡ [] → IsCourse board [] course → HasLanded board woven course
begins board woven course no_strands no_acts is =
    let none : events_of woven ≡ [] = rw (no_strands) refl in
    let history : history_of (events_of woven) ≡ [] = rw (none) refl in
    record {
      going = record { course_is = subst (λ (h : List Event). IsCourse board h course) (sym history) is; whole = rw (no_strands, no_acts) refl };
      landed = subst (NothingFlies Tagged board) (sym history) (λ lane. refl);
    }

-- one event more
pub goes_by : (board : Board) (event : Event) (before after : Woven) (course later : Course) → IsGoing board before course → GoesOn event before after
    → IsCourse board (event ∷ history_of (events_of before)) later → IsGoing board after later
goes_by board event before after course later going more is =
    let went = more going.whole in
    record { course_is = subst (λ (h : List Event). IsCourse board h later) (sym went.more) is; whole = went.whole }

-- by an arrival less is left
pub left_fell : (board : Board) (event : Event) (before after : Woven) (course : Course) → IsGoing board before course → GoesOn event before after
    → left_of board (event ∷ history_of (events_of before)) + 1 ≤ left_of board (history_of (events_of before))
    → left_of board (history_of (events_of after)) < left_of board (history_of (events_of before))
left_fell board event before after course going more falls =
    let went = more going.whole in
    let fewer : left_of board (event ∷ history_of (events_of before)) < left_of board (history_of (events_of before)) = omega (arith, falls) in
    subst (λ (h : List Event). left_of board h < left_of board (history_of (events_of before))) (sym went.more) fewer

-- what has landed is a run
pub ends : (board : Board) (woven : Woven) (course : Course) → HasLanded board woven course → EndsLanded board woven
ends board woven course landed = record { run = landed.going.course_is.stands.run; landed = landed.landed; whole = landed.going.whole }
