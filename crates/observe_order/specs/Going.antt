-- A run of the acts that were taken so far, with all arrivals behind each.
use Rattle.board_model.specs.declared.board.Board.{Board}
use Rattle.history_model.specs.declared.rule.Rule.TheVariants.{Tagged}
use Rattle.history_model.specs.Runs.{Run, history_of}
use Rattle.law_early.specs.Early.{NothingFlies}
use Rattle.judge_next.specs.declared.course.Course.{Course}
use Rattle.judge_next.specs.Course.{IsCourse}
use Rattle.observe_told.specs.declared.woven.Woven.{Woven}
use Rattle.observe_told.specs.Woven.{events_of, IsWhole}

-- these events are a run of the board at whose end nothing is in flight
pub record EndsLanded (board : Board) (woven : Woven) : Type 0 where
  pub run : Run board (history_of (events_of woven))
  pub landed : NothingFlies Tagged board (history_of (events_of woven))
  pub whole : IsWhole woven

-- a run that goes on
pub record IsGoing (board : Board) (woven : Woven) (course : Course) : Type 0 where
  pub course_is : IsCourse board (history_of (events_of woven)) course
  pub whole : IsWhole woven

-- and nothing is in flight
pub record HasLanded (board : Board) (woven : Woven) (course : Course) : Type 0 where
  pub going : IsGoing board woven course
  pub landed : NothingFlies Tagged board (history_of (events_of woven))
