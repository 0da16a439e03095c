-- check: what is written for a trace text, and with which status it is refused.
use Rattle.std.specs.Prelude.{◌≡◌, ℕ, List, [], ◌∷◌, ◌++◌, length, codes}
use Rattle.std.specs.Fmt.{decimal}
use Rattle.board_model.specs.declared.board.Board.{Board}
use Rattle.board_model.specs.Ways.{bound_of}
use Rattle.board_model.specs.Valid.{IsValid}
use Rattle.history_model.specs.declared.event.Event.{Event}
use Rattle.judge_state.specs.Refused.{FirstRefused}
use Rattle.judge_check.specs.Verdicts.{CompleteRun, IncompleteRun}
use Rattle.program_status.specs.declared.status.Status.{Status}
use Rattle.program_status.specs.declared.status.Status.TheVariants.{NoMemory, NotRun, Incomplete}
use Rattle.program_input.specs.Traces.{ReadsTrace, RefusesTrace, IsRefused}

-- the line for a complete run: its number of events, and the bound of its board
abbrev pub check_text : ℕ → ℕ → List ℕ
check_text events bound =
    codes "complete run of " ++ (decimal events ++ (codes " events, bound " ++ (decimal bound ++ 10 ∷ [])))

-- the input is the text of a valid board and of a complete run of it, and its line is written
pub record AnswersCheck (input text : List ℕ) : Type 0 where
  pub board : Board
  pub events : List Event
  pub reads : ReadsTrace input board events
  pub valid : IsValid board
  pub run : CompleteRun board events
  pub written : text ≡ check_text (length events) (bound_of board)

-- the input is the text of a valid board and of a run of it that is not complete: at most so many events are left,
-- and at least one
pub record IsCut (input : List ℕ) (left : ℕ) : Type 0 where
  pub board : Board
  pub events : List Event
  pub reads : ReadsTrace input board events
  pub valid : IsValid board
  pub incomplete : IncompleteRun board events left

-- refused: as no run, as one that is not complete, or as no trace text
abbrev pub RefusesCheck : List ℕ → Status → Type 0
RefusesCheck input (NotRun event why) = IsRefused FirstRefused input event why
RefusesCheck input (Incomplete left) = IsCut input left
RefusesCheck input status = RefusesTrace input status

-- the line for a complete run of a board
pub record Confirms (board : Board) (events : List Event) (text : List ℕ) : Type 0 where
  pub run : CompleteRun board events
  pub written : text ≡ check_text (length events) (bound_of board)

-- the status for any other events
abbrev pub Objects : Board → List Event → Status → Type 0
Objects board events NoMemory = Unit {0}
Objects board events (NotRun event why) = FirstRefused board events event why
Objects board events (Incomplete left) = IncompleteRun board events left
Objects board events _ = ⊥
