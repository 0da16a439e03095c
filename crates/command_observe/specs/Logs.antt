-- A log text that is read as a log of a valid board, or refused.
use Rattle.std.specs.Prelude.{◌≡◌, ℕ, IsTrue, List, Option, Some, None, Result, Ok, Err}
use Rattle.std.specs.Option.{option_map}
use Rattle.board_model.specs.WellFormed.{is_well_formed}
use Rattle.text_faults.specs.declared.or_no_memory.OrNoMemory.{OrNoMemory}
use Rattle.text_faults.specs.declared.or_no_memory.OrNoMemory.TheVariants as ors
use Rattle.observe_told.specs.declared.seen.Log.{Log}
use Rattle.observe_log.specs.declared.fault.LogFault.{LogFault}
use Rattle.observe_log.specs.declared.fault.LogFault.TheVariants as faults
use Rattle.observe_log.specs.Logs.{log_read}
use Rattle.program_status.specs.declared.status.Status.{Status}
use Rattle.program_status.specs.declared.status.Status.TheVariants.{NoMemory, BadBoard, BadLog}
use Rattle.program_status.specs.declared.status.BoardFault.TheVariants.{Line}
use Rattle.program_input.specs.Refusals.{tree_fault, RefusesBy}
use Rattle.command_observe.specs.declared.reading.TreeLog.{TreeLog}

-- the status that tells a fault of the text
abbrev pub fault_told : LogFault → Option Status
fault_told (faults.Log line word fault) = Some (BadLog line fault)
fault_told (faults.Board line fault) = Some (BadBoard line (Line fault))

-- a log text: its first fault with its line, and else that of the tree of its board, with line 0
abbrev pub log_reading_refusal : Result Log LogFault → Option Status
log_reading_refusal (Err fault) = fault_told fault
log_reading_refusal (Ok log) = option_map (BadBoard 0) (tree_fault log.board)

-- the same of the input
abbrev pub log_refusal : List ℕ → Option Status
log_refusal input = log_reading_refusal (log_read input)

-- it is no text of a log of a valid board: refused by its first fault, or for want of memory
abbrev pub RefusesLog : List ℕ → Status → Type 0
RefusesLog input status = RefusesBy (log_refusal input) status

-- the input is the text of a log of a valid board
pub record IsLogText (input : List ℕ) : Type 0 where
  pub log : Log
  pub reads : log_read input ≡ Ok log
  pub tree : tree_fault log.board ≡ None

-- what was read of the text of a log of a valid board
pub record ReadsLog (input : List ℕ) (read : TreeLog) : Type 0 where
  pub reads : log_read input ≡ Ok read.log
  pub faultless : tree_fault read.log.board ≡ None
  pub formed : IsTrue (is_well_formed read.log.board)

-- a status tells a fault, or that there was no memory
abbrev pub TellsFault : OrNoMemory LogFault → Status → Type 0
TellsFault (ors.Fault (faults.Log line word fault)) status = status ≡ BadLog line fault
TellsFault (ors.Fault (faults.Board line fault)) status = status ≡ BadBoard line (Line fault)
TellsFault ors.NoMemory status = status ≡ NoMemory
