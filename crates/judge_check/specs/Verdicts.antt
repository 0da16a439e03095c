-- What a list of events of a board is, the first event first.
use Rattle.std.specs.Prelude.{◌≡◌, ℕ, ◌<◌, ◌≤◌, List, ◌++◌, length}
use Rattle.board_model.specs.declared.board.Board.{Board}
use Rattle.board_model.specs.Ways.{bound_of}
use Rattle.history_model.specs.declared.event.Event.{Event}
use Rattle.history_model.specs.Runs.{Run, Complete, history_of}
use Rattle.history_model.specs.Local.{Matched}
use Rattle.history_model.specs.Knowledge.{Fresh}
use Rattle.history_model.specs.Left.{left_of}
use Rattle.law_delivered.specs.left.Left.{ReturnsAsLeft, ReturnsAsHeld}
use Rattle.judge_state.specs.Refused.{FirstRefused}
use Rattle.judge_check.specs.declared.verdict.Verdict.{Verdict as Judgement}
use Rattle.judge_check.specs.declared.verdict.Verdict.TheVariants.{Complete as IsComplete, Incomplete, NotRun}

-- a run to the end of all programs, in which each completion is taken by the operation that it was made for, and each
-- read that was told of a write reads its words after it has landed, and returns them as that write, or what landed
-- later, left them; each read returns what its word held; it has at most as many events as the board's bound
pub record CompleteRun (board : Board) (events : List Event) : Type 0 where
  pub run : Run board (history_of events)
  pub complete : Complete board (history_of events)
  pub matched : Matched board (history_of events)
  pub fresh : Fresh board (history_of events)
  pub as_left : ReturnsAsLeft board (history_of events)
  pub as_held : ReturnsAsHeld board (history_of events)
  pub bound : length events ≤ bound_of board

-- such a run that is not complete, and how many events can follow it at most: at least one is left, and no run that
-- goes on from it has more
pub record IncompleteRun (board : Board) (events : List Event) (left : ℕ) : Type 0 where
  pub run : Run board (history_of events)
  pub incomplete : ¬ Complete board (history_of events)
  pub matched : Matched board (history_of events)
  pub fresh : Fresh board (history_of events)
  pub as_left : ReturnsAsLeft board (history_of events)
  pub as_held : ReturnsAsHeld board (history_of events)
  pub bound : length events ≤ bound_of board
  pub left_is : left ≡ left_of board (history_of events)
  pub goes_on : 0 < left
  pub follow : (later : List Event) → Run board (later ++ history_of events) → length later ≤ left

-- the verdict that is right
abbrev pub Judges : Board → List Event → Judgement → Type 0
Judges board events IsComplete = CompleteRun board events
Judges board events (Incomplete left) = IncompleteRun board events left
Judges board events (NotRun number why) = FirstRefused board events number why
