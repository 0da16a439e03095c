-- Where a write is that somebody knows of: PCI Local Bus Specification 2.2, appendix E (a read completion and
-- a request must not pass an older posted write).
use Rattle.std.specs.Prelude.{◌≡◌, ℕ, Bool, true, false, List, [], ◌∷◌, ◌++◌, Some, is_some, ◌||◌, slice_get}
use Rattle.std.specs.List.{list_any}
use Rattle.pci_command.specs.declared.op_id.OpId.{OpId}
use Rattle.pci_command.specs.Same.{same_op}
use Rattle.board_model.specs.declared.agents.Master.{Master as MasterAgent}
use Rattle.board_model.specs.declared.agents.Target.{Target as TargetAgent}
use Rattle.board_model.specs.declared.bridge.Lane.{Lane as BridgeLane}
use Rattle.board_model.specs.declared.op.Op.{Op}
use Rattle.board_model.specs.declared.board.Board.{Board}
use Rattle.board_model.specs.Ways.{Dword, way, end_of}
use Rattle.history_model.specs.declared.event.Event.{Event}
use Rattle.history_model.specs.declared.item.Carried.{Carried}
use Rattle.history_model.specs.declared.item.Carried.TheVariants.{Post, Ask, Done, Room, Gone}
use Rattle.history_model.specs.Lanes.{LaneState}
use Rattle.history_model.specs.World.{World, world_of}
use Rattle.history_model.specs.Words.{landed}
use Rattle.history_model.specs.Knowledge.{has_landed, is_landing_of}
use Rattle.law_fresh.specs.Aware.{knows, bears, aware_of}

-- the posted write itself
abbrev pub is_post_of : OpId → Carried → Bool
is_post_of w (Post q) = same_op q w
is_post_of w (Ask q slot) = false
is_post_of w (Done q slot outcome) = false
is_post_of w Room = false
is_post_of w (Gone slot) = false

-- all that is on a lane, oldest first: what stands came before what is in flight
abbrev pub items : LaneState → List Carried
items state = state.standing ++ state.flight

-- the posted write is on the lane
abbrev pub is_on_lane : OpId → World → BridgeLane → Bool
is_on_lane w world lane = list_any (is_post_of w) (items (world lane))

-- the write has landed, or it is posted on a lane of its way from the bus
abbrev pub covered_by : OpId → Bool → World → List BridgeLane → Bool
covered_by w gone world lanes = gone || list_any (is_on_lane w world) lanes

-- so it is, seen from a bus after a history: nothing that goes the same way from there comes before the write
abbrev pub covered : Board → OpId → Op → List Event → ℕ → Bool
covered board w op h on = covered_by w (has_landed h w) (world_of board h) (way board op on)

-- the bus is covered where an item of these arrives that carries knowledge, or the posted write stands before it
abbrev pub Safe : (Carried → Bool) → OpId → Bool → List Carried → Type 0
Safe test w sure [] = Unit {0}
Safe test w sure (item ∷ items) = (test item ≡ true → sure ≡ true) × Safe test w (sure || is_post_of w item) items

-- whoever knows of the write is covered
pub record Informed (board : Board) (w : OpId) (op : Op) (h : List Event) : Type 0 where
  -- a master that knows of it
  pub masters : (master : ℕ) (agent : MasterAgent) → slice_get board.masters master ≡ Some agent → is_some ((aware_of board w h).since master) ≡ true
      → covered board w op h agent.bus ≡ true
  -- what is on a lane
  pub lanes : (lane : BridgeLane) → Safe (bears w (aware_of board w h)) w (covered board w op h (end_of board lane)) (items (world_of board h lane))
  -- a write that was told of it, where a data phase of that write landed
  pub landings : (word : Dword) (v : OpId) (target : TargetAgent) → slice_get board.targets word.target ≡ Some target → same_op v w ≡ false
      → list_any (is_landing_of v) (landed board h word) ≡ true → knows (aware_of board w h) v ≡ true → covered board w op h target.bus ≡ true
