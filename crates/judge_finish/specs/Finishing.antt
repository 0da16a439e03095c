-- How a run goes on to the end of all programs.
use Rattle.std.specs.Prelude.{◌≡◌, ◌+◌, ◌≤◌, List, [], ◌∷◌, ◌++◌, Option, Some, None}
use Rattle.board_model.specs.declared.board.Board.{Board}
use Rattle.history_model.specs.declared.event.Event.{Event}
use Rattle.history_model.specs.Runs.{Allowed, Complete, history_of}
use Rattle.history_model.specs.Left.{left_of}
use Rattle.history_model.specs.Next.{next_of}
use Rattle.law_delivered.specs.Laws.{LawsOfRun}
use Rattle.judge_state.specs.Refused.{FirstRefused}
use Rattle.judge_next.specs.declared.course.Course.{Course}
use Rattle.judge_next.specs.Course.{IsCourse}
use Rattle.judge_check.specs.Verdicts.{CompleteRun}
use Rattle.judge_finish.specs.declared.unfinished.Unfinished.{Unfinished}
use Rattle.judge_finish.specs.declared.unfinished.Unfinished.TheVariants.{NotRun, NoMemory}

-- the events that go on from a run, each the next event of what stands before it
abbrev pub GoesOn : Board → List Event → List Event → Type 0
GoesOn board before [] = Unit {0}
GoesOn board before (e ∷ more) = (next_of board (history_of before) ≡ Some e) × GoesOn board (before ++ e ∷ []) more

-- a run, and what comes of it at the end of all programs
pub record Finishes (board : Board) (events whole : List Event) : Type 0 where
  pub more : List Event
  pub whole_is : whole ≡ events ++ more
  pub goes_on : GoesOn board events more
  pub runs : CompleteRun board whole

-- a run went on by its next event, which lowers what is left
pub record WentOnBy (board : Board) (h : List Event) (course : Course) (e : Event) : Type 0 where
  pub next : next_of board h ≡ Some e
  pub allowed : Allowed board h e
  pub course_is : IsCourse board (e ∷ h) course
  pub lowers : left_of board (e ∷ h) + 1 ≤ left_of board h

-- so it did, or there is no next event: then it is complete, and all laws hold of it
abbrev pub GoesOnBy : Board → List Event → Course → Option Event → Type 0
GoesOnBy board h course (Some e) = WentOnBy board h course e
GoesOnBy board h course None = Complete board h × LawsOfRun board h

-- why events are not taken to the end: they are no run, or for want of memory
abbrev pub IsUnfinished : Board → List Event → Unfinished → Type 0
IsUnfinished board events (NotRun event why) = FirstRefused board events event why
IsUnfinished board events NoMemory = Unit {0}
