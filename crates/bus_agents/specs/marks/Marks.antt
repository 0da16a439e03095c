-- Which arrivals of a lane a board marks: PCI Local Bus Specification 2.2, section 3.3.3.3.3 (from memory; discarding
-- of delayed transactions).
use Rattle.std.specs.Prelude.{◌≡◌, ℕ, ◌+◌, List, ◌==◌}
use Rattle.std.specs.List.{list_any}
use Rattle.board_model.specs.declared.bridge.Lane.{Lane as BridgeLane}
use Rattle.board_model.specs.declared.board.Board.{Board}
use Rattle.board_model.specs.declared.board.Planned.{Planned}
use Rattle.history_model.specs.declared.event.Mark.{Mark}
use Rattle.history_model.specs.declared.item.Carried.{Carried}
use Rattle.history_model.specs.Lanes.{LaneState, asks_in, dones_in}
use Rattle.history_model.specs.Runs.{names, mark_of}

-- what is kept of a lane
pub record MarksView : Type 0 where
  -- how many delayed requests and completions arrived so far
  pub asks : ℕ
  pub dones : ℕ
  -- which of them are dropped and discarded, by their numbers from 1 on
  pub drops : List ℕ
  pub discards : List ℕ

-- the numbers are those that the lines name on the lane
pub record AreNamed (lane : BridgeLane) (lines : List Planned) (numbers : List ℕ) : Type 0 where
  pub each : (n : ℕ) → list_any (λ number. number == n) numbers ≡ list_any (names lane n) lines

-- what is kept stands for a lane on which so many delayed requests and completions arrived
pub record MarksStand (board : Board) (lane : BridgeLane) (asks dones : ℕ) (m : MarksView) : Type 0 where
  pub asks_are : m.asks ≡ asks
  pub dones_are : m.dones ≡ dones
  pub drops_are : AreNamed lane board.drops m.drops
  pub discards_are : AreNamed lane board.discards m.discards

-- the item that arrives is marked as in the model, and counted
pub record MarksArrival (old : MarksView) (item : Carried) (mark : Mark) (new : MarksView) : Type 0 where
  pub marked : (board : Board) (lane : BridgeLane) (state : LaneState) → MarksStand board lane state.asks state.dones old → mark ≡ mark_of board lane state item
  pub counted : (board : Board) (lane : BridgeLane) (asks dones : ℕ) → MarksStand board lane asks dones old → MarksStand board lane (asks + asks_in item) (dones + dones_in item) new
