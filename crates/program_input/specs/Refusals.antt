-- Why the text of a board or of a trace is refused: the first cause, as the status that tells it.
use Rattle.std.specs.Prelude.{◌≡◌, ℕ, ◌⊎◌, List, Option, Some, None, Result, Ok, Err, nat_lt, if◌then◌else◌}
use Rattle.std.specs.Option.{option_map}
use Rattle.board_model.specs.declared.board.Board.{Board}
use Rattle.board_model.specs.Ways.{bound_of}
use Rattle.text_faults.specs.declared.board_line.LineFault.{LineFault}
use Rattle.board_parser.specs.Boards.{board_read}
use Rattle.text_faults.specs.declared.tree.TreeFault.{TreeFault}
use Rattle.board_checks.specs.Faults.{first_fault_of}
use Rattle.history_model.specs.declared.event.Event.{Event}
use Rattle.trace_reader.specs.declared.fault.TraceFault.{TraceFault}
use Rattle.trace_reader.specs.declared.fault.TraceFault.TheVariants as faults
use Rattle.trace_reader.specs.Traces.{trace_read}
use Rattle.program_status.specs.declared.status.Status.{Status}
use Rattle.program_status.specs.declared.status.Status.TheVariants.{NoMemory, BadBoard, BadTrace}
use Rattle.program_status.specs.Subjects.{Subject, subject_of}
use Rattle.program_status.specs.Subjects.Subject.{Success, Memory, Words, Reading, Writing, Length, Input}
use Rattle.program_status.specs.declared.status.BoardFault.{BoardFault}
use Rattle.program_status.specs.declared.status.BoardFault.TheVariants.{Line, Tree, Bound}

-- a fault of the tree: the first of those that are named, and else a bound above 500,000
abbrev pub tree_fault_by : ℕ → Option TreeFault → Option BoardFault
tree_fault_by bound (Some fault) = Some (Tree fault)
tree_fault_by bound None = if nat_lt 500000 bound then Some (Bound bound) else None

-- the fault of the tree of a board, if it has one
abbrev pub tree_fault : Board → Option BoardFault
tree_fault board = tree_fault_by (bound_of board) (first_fault_of board)

-- a board text: its first fault with its line, and else that of its tree with line 0
abbrev pub reading_refusal : Result Board (ℕ × LineFault) → Option Status
reading_refusal (Err fault) = Some (BadBoard fault.0 (Line fault.1))
reading_refusal (Ok board) = option_map (BadBoard 0) (tree_fault board)

-- the same of the input
abbrev pub board_refusal : List ℕ → Option Status
board_refusal input = reading_refusal (board_read input)

-- a trace text: its first fault, and else that of the tree of its board
abbrev pub trace_reading_refusal : Result (Board × List Event) TraceFault → Option Status
trace_reading_refusal (Err (faults.Trace line fault)) = Some (BadTrace line fault)
trace_reading_refusal (Err (faults.Board line fault)) = Some (BadBoard line (Line fault))
trace_reading_refusal (Ok read) = option_map (BadBoard 0) (tree_fault read.0)

-- the same of the input
abbrev pub trace_refusal : List ℕ → Option Status
trace_refusal input = trace_reading_refusal (trace_read input)

-- a status that speaks of this refuses an input: it is for want of memory, or tells this cause
abbrev pub RefusesAs : Subject → Option Status → Status → Type 0
RefusesAs Success cause status = ⊥
RefusesAs Memory cause status = Unit {0}
RefusesAs Words cause status = ⊥
RefusesAs Reading cause status = ⊥
RefusesAs Writing cause status = ⊥
RefusesAs Length cause status = ⊥
RefusesAs Input cause status = cause ≡ Some status

-- the status refuses an input for this cause
abbrev pub RefusesBy : Option Status → Status → Type 0
RefusesBy cause status = RefusesAs (subject_of status) cause status

-- what each word of the program owes of its refusals: an input without fault is refused only for want of memory, and a
-- refusal speaks of memory or of the input
pub record IsRefusing (Refuses : List ℕ → Status → Type 0) (IsFaultless : List ℕ → Type 0) : Type 0 where
  pub served : (input : List ℕ) (status : Status) → IsFaultless input → Refuses input status → status ≡ NoMemory
  pub subject : (input : List ℕ) (status : Status) → Refuses input status → (subject_of status ≡ Memory) ⊎ (subject_of status ≡ Input)
