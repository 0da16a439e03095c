-- How the program ends: a number, and a line on standard error.
use Rattle.std.specs.Prelude.{ℕ, List, [], ◌++◌, codes}
use Rattle.std.specs.Fmt.{decimal}
use Rattle.text_faults.specs.Tree.{code_of as tree_code_of}
use Rattle.text_faults.specs.declared.board_line.Family.{Family}
use Rattle.text_faults.specs.declared.board_line.Family.TheVariants.{L, P, H}
use Rattle.text_faults.specs.BoardLine.{family_of, code_of}
use Rattle.text_faults.specs.Device.{code_of as device_code_of}
use Rattle.history_model.specs.WhyText.{why_text}
use Rattle.text_faults.specs.Lspci.{code_of as machine_code_of}
use Rattle.text_faults.specs.TraceLine.{code_of as trace_code_of}
use Rattle.text_faults.specs.LogLine.{code_of as log_code_of}
use Rattle.program_status.specs.CountText.{counts_text}
use Rattle.program_status.specs.LogText.{refusal_text, excess_text}
use Rattle.program_status.specs.declared.status.Status.{Status}
use Rattle.program_status.specs.declared.status.Status.TheVariants.{Done, NoMemory, Usage, ReadFault, WriteFault, TooLong, BadBoard, BadTrace, BadMachine, TooManyEvents, NotRun, Incomplete, NotSafe, NotShown, DrawnTo, BadLog, NotTold, TooMuch, ToldTo}
use Rattle.program_status.specs.declared.status.BoardFault.{BoardFault}
use Rattle.program_status.specs.declared.status.BoardFault.TheVariants.{Line, Tree, Bound, Device}

-- what the process ends with
abbrev pub number_of : Status → ℕ
number_of Done = 0
number_of NoMemory = 1
number_of (Usage _) = 2
number_of ReadFault = 3
number_of WriteFault = 4
number_of TooLong = 5
number_of (BadBoard _ _) = 6
number_of (BadTrace _ _) = 7
number_of (BadMachine _ _) = 6
number_of (TooManyEvents _) = 5
number_of (NotRun _ _) = 8
number_of (Incomplete _) = 9
number_of (NotSafe _) = 10
number_of NotShown = 11
number_of (DrawnTo _ _) = 8
number_of (BadLog _ _) = 7
number_of (NotTold _ _) = 8
number_of (TooMuch _ _) = 5
number_of (ToldTo _ _) = 8

-- the letter by which the fault of a line is told
abbrev pub letter_of : Family → List ℕ
letter_of L = codes "L"
letter_of P = codes "P"
letter_of H = codes "H"

-- a fault of a board: of a line (L, P or H), of its tree (V) or of the devices on it (Q), by its number; a bound that
-- is too high is V9, and comes with it
abbrev pub fault_text : BoardFault → List ℕ
fault_text (Line fault) = letter_of (family_of fault) ++ decimal (code_of fault)
fault_text (Tree fault) = codes "V" ++ decimal (tree_code_of fault)
fault_text (Bound bound) = codes "V9 bound " ++ decimal bound
fault_text (Device fault) = codes "Q" ++ decimal (device_code_of fault)

-- the line, without its newline
abbrev pub status_text : Status → List ℕ
status_text Done = []
status_text NoMemory = codes "pcitree: no memory"
status_text (Usage word) = codes "pcitree: usage, word " ++ decimal word
status_text ReadFault = codes "pcitree: read failed"
status_text WriteFault = codes "pcitree: write failed"
status_text TooLong = codes "pcitree: input too long"
status_text (BadBoard line fault) = codes "pcitree: board line " ++ (decimal line ++ (codes " fault " ++ fault_text fault))
status_text (BadTrace line fault) = codes "pcitree: trace line " ++ (decimal line ++ (codes " fault X" ++ decimal (trace_code_of fault)))
status_text (BadMachine line fault) = codes "pcitree: import line " ++ (decimal line ++ (codes " fault I" ++ decimal (machine_code_of fault)))
status_text (TooManyEvents events) = codes "pcitree: " ++ (decimal events ++ codes " events are too many to draw")
status_text (NotRun event why) = codes "pcitree: event " ++ (decimal event ++ (codes " is not allowed: " ++ why_text why))
status_text (Incomplete left) = codes "pcitree: incomplete, at most " ++ (decimal left ++ codes " events left")
status_text (NotSafe counts) = codes "pcitree: " ++ counts_text counts
status_text NotShown = codes "pcitree: READ did not read before WRITE landed"
status_text (DrawnTo event why) = codes "pcitree: event " ++ (decimal event ++ (codes " is not allowed: " ++ why_text why))
status_text (BadLog line fault) = codes "pcitree: log line " ++ (decimal line ++ (codes " fault G" ++ decimal (log_code_of fault)))
status_text (NotTold line refusal) = codes "pcitree: log line " ++ (decimal line ++ (codes " is not allowed: " ++ refusal_text refusal))
status_text (TooMuch line excess) = codes "pcitree: log line " ++ (decimal line ++ (codes " is too much: " ++ excess_text excess))
status_text (ToldTo line why) = codes "pcitree: log line " ++ (decimal line ++ (codes " is not allowed: " ++ why_text why))
