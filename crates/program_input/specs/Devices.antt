-- A text of devices on a board that is read as a valid board, or refused.
use Rattle.std.specs.Prelude.{◌≡◌, ℕ, List, Option, Some, None, Result, Ok, Err}
use Rattle.std.specs.Option.{option_map}
use Rattle.board_model.specs.declared.board.Board.{Board}
use Rattle.board_model.specs.Valid.{IsValid}
use Rattle.dma_agents.specs.declared.fault.MakeFault.{MakeFault}
use Rattle.dma_agents.specs.declared.fault.MakeFault.TheVariants as faults
use Rattle.dma_agents.specs.Made.{Made, IsMade, made_read}
use Rattle.text_faults.specs.declared.device.DeviceFault.TheVariants.{NotClear}
use Rattle.program_status.specs.declared.status.Status.{Status}
use Rattle.program_status.specs.declared.status.Status.TheVariants.{BadBoard}
use Rattle.program_status.specs.declared.status.BoardFault.TheVariants.{Line, Device}
use Rattle.program_input.specs.Refusals.{tree_fault, RefusesBy}

-- the input is the text of devices on a board, and with their masters it is this valid board
pub record ReadsDevices (input : List ℕ) (board : Board) : Type 0 where
  pub made : IsMade board (made_read input)
  pub valid : IsValid board

-- its first fault with its line in the whole text, and else that of the tree of the board that is made, with line 0
abbrev pub making_refusal : Result Made MakeFault → Option Status
making_refusal (Err (faults.Board line fault)) = Some (BadBoard line (Line fault))
making_refusal (Err (faults.Device line fault)) = Some (BadBoard line (Device fault))
making_refusal (Err (faults.NotClear line flag why)) = Some (BadBoard line (Device NotClear))
making_refusal (Ok made) = option_map (BadBoard 0) (tree_fault made.board)

-- the same of the input
abbrev pub devices_refusal : List ℕ → Option Status
devices_refusal input = making_refusal (made_read input)

-- it is no text of devices on a valid board: refused by its first fault, or for want of memory
abbrev pub RefusesDevices : List ℕ → Status → Type 0
RefusesDevices input status = RefusesBy (devices_refusal input) status

-- it is one
abbrev pub IsDeviceText : List ℕ → Type 0
IsDeviceText input = devices_refusal input ≡ None
