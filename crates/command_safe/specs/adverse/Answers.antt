-- adverse: what is written for a board and two words, and with which status they are refused.
use Rattle.std.specs.Prelude.{◌≡◌, ℕ, List, ◌⊎◌, Some, None}
use Rattle.board_model.specs.declared.board.Board.{Board}
use Rattle.board_model.specs.Valid.{IsValid}
use Rattle.history_model.specs.declared.event.Event.{Event}
use Rattle.program_input.specs.Protocols.{ReadsProtocol, RefusesProtocol, IsProtocolText}
use Rattle.program_status.specs.declared.status.Status.{Status}
use Rattle.program_status.specs.declared.status.Status.TheVariants.{NoMemory, NotShown}
use Rattle.trace_roundtrip.specs.Printed.{IsTraceOf}
use Rattle.judge_adverse.specs.declared.run.Pair.{Pair}
use Rattle.judge_adverse.specs.Operation.{read_of, write_of}
use Rattle.judge_adverse.specs.Runs.{IsAdverse, MayWait, GoesOnElse}

-- the words name this read and this write of the board
pub record NamesPair (board : Board) (read write : List ℕ) (pair : Pair) : Type 0 where
  pub reads : read_of board read ≡ Some pair.read
  pub writes : write_of board write ≡ Some pair.write

-- they do not: the first is no read of a word, or the second no write
abbrev pub IsNoPair : Board → List ℕ → List ℕ → Type 0
IsNoPair board read write = (read_of board read ≡ None) ⊎ (write_of board write ≡ None)

-- the text is the trace of a complete run in which the read reads before the write has begun
pub record ShowsPair (board : Board) (pair : Pair) (text : List ℕ) : Type 0 where
  pub events : List Event
  pub adverse : IsAdverse board pair.read pair.write events
  pub trace : IsTraceOf board events text

-- so it is of the read and the write that the words name
pub record ShowsAdverse (board : Board) (read write text : List ℕ) : Type 0 where
  pub pair : Pair
  pub named : NamesPair board read write pair
  pub shows : ShowsPair board pair text

-- nothing is shown of a read and a write, since a run comes to wait for the write before the read has ended; or for want
-- of memory
abbrev pub HidesPair : Board → Pair → Status → Type 0
HidesPair board pair NotShown = MayWait board pair.read pair.write
HidesPair board pair status = status ≡ NoMemory

-- nothing is shown: the words name no read and write of the board, or such a run comes to wait
pub data IsHidden (board : Board) (read write : List ℕ) : Type 0 where
  no_pair : IsNoPair board read write → IsHidden board read write
  waits : (pair : Pair) → NamesPair board read write pair → MayWait board pair.read pair.write → IsHidden board read write

-- for that, or for want of memory
abbrev pub HidesAs : Board → List ℕ → List ℕ → Status → Type 0
HidesAs board read write NotShown = IsHidden board read write
HidesAs board read write status = status ≡ NoMemory

-- the input is the text of a valid board, of which so a run is shown
pub record AnswersAdverse (read write input text : List ℕ) : Type 0 where
  pub board : Board
  pub reads : ReadsProtocol input board
  pub valid : IsValid board
  pub shows : ShowsAdverse board read write text

-- the input is the text of a valid board, of which nothing is shown
pub record IsNotShown (read write input : List ℕ) : Type 0 where
  pub board : Board
  pub reads : ReadsProtocol input board
  pub valid : IsValid board
  pub hidden : IsHidden board read write

-- refused: since nothing is shown, or as no text of a valid board
abbrev pub RefusesAdverse : List ℕ → List ℕ → List ℕ → Status → Type 0
RefusesAdverse read write input NotShown = IsNotShown read write input
RefusesAdverse read write input status = RefusesProtocol input status

-- the input has no fault: the words name a read and a write of its board, and behind each run in which the read has not
-- ended something may be done but by the master of the write, whose turn is the write or stands behind it
pub record IsShowable (read write input : List ℕ) : Type 0 where
  pub board : Board
  pub reads : ReadsProtocol input board
  pub is_text : IsProtocolText input
  pub pair : Pair
  pub named : NamesPair board read write pair
  pub goes_on : GoesOnElse board pair.read pair.write
