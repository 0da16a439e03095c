-- How all that is in flight arrives.
use Rattle.std.specs.Prelude.{◌≡◌, ◌+◌, ◌≤◌, List, ◌∷◌, Option, Some, None}
use Rattle.board_model.specs.declared.board.Board.{Board}
use Rattle.board_model.specs.declared.bridge.Lane.{Lane as BridgeLane}
use Rattle.history_model.specs.declared.event.Event.{Event}
use Rattle.history_model.specs.declared.event.Mark.{Mark}
use Rattle.history_model.specs.declared.event.Event.TheVariants.{Arrive}
use Rattle.history_model.specs.declared.rule.Rule.TheVariants.{Tagged}
use Rattle.history_model.specs.Runs.{history_of}
use Rattle.history_model.specs.Left.{left_of}
use Rattle.history_model.specs.Next.{next_of}
use Rattle.law_early.specs.Early.{acts_of, NothingFlies}
use Rattle.judge_next.specs.declared.course.Course.{Course}
use Rattle.judge_next.specs.Course.{IsCourse}
use Rattle.judge_fill.specs.Filling.{IsEarly}

-- arrivals that are early went on from a history
pub record Arriving (board : Board) (h whole : List Event) (course : Course) : Type 0 where
  pub course_is : IsCourse board (history_of whole) course
  pub same_acts : acts_of (history_of whole) ≡ acts_of h
  pub early : IsEarly board h → IsEarly board (history_of whole)

-- and nothing is in flight any more
pub record Arrived (board : Board) (h whole : List Event) (course : Course) : Type 0 where
  pub arriving : Arriving board h whole course
  pub landed : NothingFlies Tagged board (history_of whole)

-- a run went on by an arrival that is its next event, which lowers what is left
pub record ArrivedNext (board : Board) (h : List Event) (course : Course) (e : Event) : Type 0 where
  pub lane : BridgeLane
  pub mark : Mark
  pub is : e ≡ Arrive lane mark
  pub next : next_of board h ≡ Some e
  pub course_is : IsCourse board (e ∷ h) course
  pub lowers : left_of board (e ∷ h) + 1 ≤ left_of board h

-- so it did, or nothing is in flight
abbrev pub ArrivesBy : Board → List Event → Course → Option Event → Type 0
ArrivesBy board h course (Some e) = ArrivedNext board h course e
ArrivesBy board h course None = IsCourse board h course × NothingFlies Tagged board h
