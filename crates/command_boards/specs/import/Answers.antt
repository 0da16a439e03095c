-- import: what is written for what `lspci` wrote.
use Rattle.std.specs.Prelude.{◌≡◌, ◌≤◌, ◌^◌, ◌⊎◌, ℕ, List, length, Option, Some, None, Result, Ok, Err}
use Rattle.board_model.specs.declared.board.Board.{Board}
use Rattle.text_faults.specs.declared.lspci.LspciFault.{LspciFault}
use Rattle.text_faults.specs.declared.lspci.LspciFault.TheVariants.{NoBoard}
use Rattle.import_text.specs.declared.function.Function.{Function}
use Rattle.import_text.specs.Functions.{functions_read}
use Rattle.import_bridges.specs.Functions.{first_root}
use Rattle.import_board.specs.Machine.{IsMachine}
use Rattle.program_status.specs.declared.status.Status.{Status}
use Rattle.program_status.specs.declared.status.Status.TheVariants.{NoMemory, BadMachine}
use Rattle.program_input.specs.Boards.{ReadsBoard}
use Rattle.program_input.specs.Refusals.{RefusesBy}

-- the text of a valid board is written, no longer than an input may be; the input is what lspci wrote of these functions,
-- and the board is that of their machine, below the least bus of its least domain
pub record AnswersImport (input text : List ℕ) : Type 0 where
  pub board : Board
  pub read : ReadsBoard text board
  pub within : length text ≤ 2 ^ 20
  pub functions : List Function
  pub told : functions_read input ≡ Ok functions
  pub machine : IsMachine (first_root functions) functions board

-- the text of a valid board, no longer than an input may be, which is that of the machine of these functions
pub record TellsMachine (functions : List Function) (text : List ℕ) : Type 0 where
  pub board : Board
  pub read : ReadsBoard text board
  pub within : length text ≤ 2 ^ 20
  pub machine : IsMachine (first_root functions) functions board

-- the first fault of what was read, if it has one
abbrev pub fault_told : Result (List Function) (ℕ × LspciFault) → Option Status
fault_told (Ok functions) = None
fault_told (Err fault) = Some (BadMachine fault.0 fault.1)

-- the first fault of what lspci wrote, if it has one
abbrev pub machine_refusal : List ℕ → Option Status
machine_refusal input = fault_told (functions_read input)

-- I5, with line 0
abbrev pub given_up : Status
given_up = BadMachine 0 NoBoard

-- why nothing is written for functions that were read: for want of memory, or they are given up
abbrev pub IsUntold : Status → Type 0
IsUntold status = (status ≡ NoMemory) ⊎ (status ≡ given_up)

-- an input without fault is given up: of why nothing is said
pub record GivesUp (input : List ℕ) (status : Status) : Type 0 where
  pub faultless : machine_refusal input ≡ None
  pub told : status ≡ given_up

-- it is refused with this status, by its first fault or for want of memory, or given up
abbrev pub RefusesImport : List ℕ → Status → Type 0
RefusesImport input status = RefusesBy (machine_refusal input) status ⊎ GivesUp input status

-- of no input it is said beforehand that it is not given up: that is tested
abbrev pub IsImportedSurely : List ℕ → Type 0
IsImportedSurely input = ⊥
