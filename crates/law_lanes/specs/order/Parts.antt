-- Where a write is of which a target took a part and disconnected: PCI Local Bus Specification 2.2, section
-- 3.3.3.2 (target initiated termination).
use Rattle.std.specs.Prelude.{◌≡◌, ℕ, ◌+◌, ◌<◌, ◌≤◌, false, true, List, ◌∷◌, length, Some, slice_get}
use Rattle.pci_command.specs.declared.request.Request.{Request}
use Rattle.pci_command.specs.declared.op_id.OpId.{OpId}
use Rattle.board_model.specs.declared.agents.Target.{Target as TargetAgent}
use Rattle.board_model.specs.declared.bridge.Lane.{Lane as BridgeLane}
use Rattle.board_model.specs.declared.bridge.Place.TheVariants.{Target}
use Rattle.board_model.specs.declared.board.Board.{Board}
use Rattle.board_model.specs.declared.op.Op.{Op}
use Rattle.board_model.specs.Requests.{request_on, request_of, is_posted}
use Rattle.board_model.specs.Claims.{claim}
use Rattle.board_model.specs.Ways.{aborts_at, end_of}
use Rattle.history_model.specs.declared.event.Event.{Event}
use Rattle.history_model.specs.World.{world_of}
use Rattle.history_model.specs.Program.{turn_of}
use Rattle.history_model.specs.Words.{without}
use Rattle.law_lanes.specs.order.Order.{posts}
use Rattle.law_lanes.specs.order.One.{times, lands_from_master, lands_from_lane}

-- a write in memory is aborted by a target in all its data phases or in none
abbrev pub WritesAbortWhole : Board → Type 0
WritesAbortWhole board =
    (o : OpId) (on : ℕ) (request : Request) (phase place : ℕ) (target : TargetAgent) → request_of board o on ≡ Some request → is_posted request ≡ true
    → phase < length request.phases → slice_get board.targets place ≡ Some target
    → aborts_at target (without phase request) ≡ aborts_at target request

-- a target claims the request on the bus and does not abort it: it has a word there
pub record HasWord (board : Board) (on : ℕ) (request : Request) : Type 0 where
  pub place : ℕ
  pub target : TargetAgent
  pub claims : claim board on request ≡ Target place
  pub is_target : slice_get board.targets place ≡ Some target
  pub no_abort : aborts_at target request ≡ false

-- where the rest of a write waits that went through in part: at its master, whose turn it is, where the master's bus
-- has its word; or at the end of a lane, as the oldest posted write that stands there, where that bus has its word; or
-- the rest landed
pub data PartsAt (board : Board) (h : List Event) (o : OpId) (op : Op) (start : ℕ) : Type 0 where
  at_master : turn_of board h o.master ≡ Some o → HasWord board start (request_on op start) → PartsAt board h o op start
  at_lane : (lane : BridgeLane) (later : List OpId) → posts (world_of board h lane).standing ≡ o ∷ later
      → HasWord board (end_of board lane) (request_on op (end_of board lane)) → PartsAt board h o op start
  landed : 1 ≤ times (lands_from_master o) h + times (lands_from_lane o) h → PartsAt board h o op start
