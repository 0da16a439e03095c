-- The text of a board, or of devices on one, that is read as a valid board, or refused: whose operations are judged.
use Rattle.std.specs.Prelude.{◌≡◌, ℕ, Bool, true, false, List, Option, None, if◌then◌else◌}
use Rattle.board_model.specs.declared.board.Board.{Board}
use Rattle.dma_agents.specs.Made.{begins_devices}
use Rattle.program_status.specs.declared.status.Status.{Status}
use Rattle.program_input.specs.Refusals.{board_refusal, RefusesBy}
use Rattle.program_input.specs.Boards.{ReadsBoard}
use Rattle.program_input.specs.Devices.{ReadsDevices, devices_refusal}

-- it is a text of the one kind or of the other
abbrev pub ReadsAs : Bool → List ℕ → Board → Type 0
ReadsAs true input board = ReadsDevices input board
ReadsAs false input board = ReadsBoard input board

-- the input is the text of devices on a board, where its first line is that of one, and else of a board; and it is this
-- valid board
abbrev pub ReadsProtocol : List ℕ → Board → Type 0
ReadsProtocol input board = ReadsAs (begins_devices input) input board

-- its first fault, as of the one or the other
abbrev pub protocol_refusal : List ℕ → Option Status
protocol_refusal input = if begins_devices input then devices_refusal input else board_refusal input

-- it is refused by its first fault, or for want of memory
abbrev pub RefusesProtocol : List ℕ → Status → Type 0
RefusesProtocol input status = RefusesBy (protocol_refusal input) status

-- it has no fault
abbrev pub IsProtocolText : List ℕ → Type 0
IsProtocolText input = protocol_refusal input ≡ None
