-- For whom a slot is held: PCI-to-PCI Bridge Architecture Specification 1.1, chapter 5 (from memory; delayed
-- transactions).
use Rattle.std.specs.Prelude.{◌≡◌, ℕ, true, false, Some, slice_get}
use Rattle.pci_command.specs.declared.request.Request.{Request}
use Rattle.pci_command.specs.declared.op_id.OpId.{OpId}
use Rattle.board_model.specs.declared.bridge.Lane.{Lane as BridgeLane}
use Rattle.board_model.specs.declared.bridge.Place.TheVariants.{Lane}
use Rattle.board_model.specs.declared.board.Board.{Board}
use Rattle.board_model.specs.Requests.{request_of, is_posted}
use Rattle.board_model.specs.Claims.{claim}
use Rattle.board_model.specs.Ways.{end_of, start_of}
use Rattle.history_model.specs.declared.event.By.{By}
use Rattle.history_model.specs.declared.event.By.TheVariants.{Master, Lane as ByLane}
use Rattle.history_model.specs.declared.item.Slot.{Slot}
use Rattle.history_model.specs.Answers.{is_on}

-- who can present the operation on the bus: its own master, if it is there, or a lane that ends there
abbrev pub IsAt : Board → ℕ → By → OpId → Type 0
IsAt board on Master o = is_on on (slice_get board.masters o.master) ≡ true
IsAt board on (ByLane lane) o = end_of board lane ≡ on

-- the slot is held for a delayed request that the lane claims on this bus, latched by one who is there
pub record LatchedOn (board : Board) (on : ℕ) (lane : BridgeLane) (slot : Slot) : Type 0 where
  pub request : Request
  pub is_request : request_of board slot.op on ≡ Some request
  pub delayed : is_posted request ≡ false
  pub claims : claim board on request ≡ Lane lane
  pub initiator : IsAt board on slot.by slot.op

-- the same on the bus where the lane begins
abbrev pub Latched : Board → BridgeLane → Slot → Type 0
Latched board lane slot = LatchedOn board (start_of board lane) lane slot
