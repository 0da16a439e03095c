-- A segment with its ends of lanes, and what it stands for between phases, whatever comes to its bus.
use Rattle.std.specs.Prelude.{◌≡◌, ◌≢◌, ℕ, List, [], ◌++◌, Some, None, slice_get}
use Rattle.board_model.specs.declared.bridge.Lane.{Lane as BridgeLane}
use Rattle.board_model.specs.declared.board.Board.{Board}
use Rattle.board_model.specs.Ways.{end_of, lane_back}
use Rattle.history_model.specs.declared.event.Stamped.{Stamped}
use Rattle.history_model.specs.Answers.{bridge_to}
use Rattle.lane_items.specs.declared.item.Item.{Item}
use Rattle.bus_core.specs.Bus.{shape_of}
use Rattle.bus_segment.specs.Segment.{SegmentView, SegmentPast}

-- one segment with its ends of lanes, one at each port, and the events that it recorded, oldest first
pub record WorkerView (End : Type 0) : Type 0 where
  pub segment : SegmentView
  pub ends : List End
  pub events : List Stamped

-- what comes to the bus is at each port what was received there and then the rest; nothing comes on other lanes
pub record ComesBehind (board : Board) (s : SegmentView) (received rest : ℕ → List Item) (came : BridgeLane → List Item) : Type 0 where
  pub at_ports : (n : ℕ) (lane : BridgeLane) → slice_get (shape_of s.bus).lanes n ≡ Some lane → came lane ≡ received n ++ rest n
  pub nothing_else : (lane : BridgeLane) → end_of board lane ≢ s.bus.bus → came lane ≡ []
  pub bridges_alone : (lane : BridgeLane) → bridge_to board lane.bus ≡ None → came lane ≡ []

-- whatever comes to its bus behind what was received at its ports, the segment stands for what it did and sent
pub record SegmentStands (board : Board) (s : SegmentView) (p : List Stamped) (received sent : ℕ → List Item) : Type 0 where
  pub past : (came : BridgeLane → List Item) (rest : ℕ → List Item) → ComesBehind board s received rest came → SegmentPast board came p s rest sent

-- what was received and sent at the ports is what was received on their lanes and put on their lanes back
pub record IsAtPorts (board : Board) (s : SegmentView) (received_at sent_at : ℕ → List Item) (received put : BridgeLane → List Item) : Type 0 where
  pub ends : (n : ℕ) (lane : BridgeLane) → slice_get (shape_of s.bus).lanes n ≡ Some lane → end_of board lane ≡ s.bus.bus
  pub received_is : (n : ℕ) (lane : BridgeLane) → slice_get (shape_of s.bus).lanes n ≡ Some lane → received_at n ≡ received lane
  pub sent_is : (n : ℕ) (lane : BridgeLane) → slice_get (shape_of s.bus).lanes n ≡ Some lane → sent_at n ≡ put (lane_back lane)
