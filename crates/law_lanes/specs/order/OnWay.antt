-- Where posted writes can be: PCI-to-PCI Bridge Architecture Specification 1.1, chapter 4 (from memory; address decoding).
use Rattle.std.specs.Prelude.{◌≡◌, ℕ, ◌<◌, true, length, Some, slice_get}
use Rattle.std.specs.List.{list_any}
use Rattle.pci_command.specs.declared.request.Request.{Request}
use Rattle.pci_command.specs.declared.op_id.OpId.{OpId}
use Rattle.board_model.specs.declared.agents.Master.{Master}
use Rattle.board_model.specs.declared.bridge.Lane.{Lane as BridgeLane}
use Rattle.board_model.specs.declared.op.Op.{Op}
use Rattle.board_model.specs.declared.board.Board.{Board}
use Rattle.board_model.specs.Requests.{op_of, request_of, is_posted}
use Rattle.board_model.specs.Claims.{claim}
use Rattle.board_model.specs.Ways.{way}
use Rattle.history_model.specs.World.{same_lane}
use Rattle.history_model.specs.Words.{without}

-- all data phases of a write in memory are claimed by whom its first one is, on each bus
abbrev pub WritesHaveOneClaimant : Board → Type 0
WritesHaveOneClaimant board =
    (o : OpId) (on : ℕ) (request : Request) (phase : ℕ) → request_of board o on ≡ Some request → is_posted request ≡ true
    → phase < length request.phases → claim board on (without phase request) ≡ claim board on request

-- the operation of a master, and the lane is one of its way from the master's bus
pub record OnWay (board : Board) (lane : BridgeLane) (o : OpId) : Type 0 where
  pub op : Op
  pub is_op : op_of board o ≡ Some op
  pub master : Master
  pub is_master : slice_get board.masters o.master ≡ Some master
  pub on_way : list_any (same_lane lane) (way board op master.bus) ≡ true
