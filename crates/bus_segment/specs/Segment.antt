-- What a segment stands for: one bus by itself, with a past that is what it did, whatever comes to it.
use Rattle.std.specs.Prelude.{◌≡◌, ℕ, ◌≤◌, Bool, false, List, [], ◌++◌, map, length, Some, None, slice_get}
use Rattle.std.specs.List.{AllByRecursion}
use Rattle.pci_command.specs.declared.op_id.OpId.{OpId}
use Rattle.board_model.specs.declared.bridge.Lane.{Lane as BridgeLane}
use Rattle.board_model.specs.declared.board.Board.{Board}
use Rattle.board_model.specs.Ways.{lane_back}
use Rattle.history_model.specs.declared.event.By.{By}
use Rattle.history_model.specs.declared.event.Stamped.{Stamped}
use Rattle.history_model.specs.declared.item.Carried.{Carried}
use Rattle.history_model.specs.World.{World}
use Rattle.history_model.specs.Answers.{bridge_to}
use Rattle.history_model.specs.Local.{local_world, LocalRun}
use Rattle.law_lanes.specs.order.Sent.{arrivals}
use Rattle.law_local.specs.Stamps.{events_of, put_stamps, AllInTime, NeverFall}
use Rattle.lane_items.specs.declared.item.Item.{Item}
use Rattle.bus_face.specs.Arrivals.{carried}
use Rattle.bus_core.specs.Bus.{BusView, BusStands, shape_of}
use Rattle.bus_core.specs.Calls.{stamp_of}

-- the items of each lane without their stamps, and their stamps
abbrev pub all_carried : (BridgeLane → List Item) → BridgeLane → List Carried
all_carried came lane = map carried (came lane)

-- the same of their stamps
abbrev pub all_stamps : (BridgeLane → List Item) → BridgeLane → List ℕ
all_stamps came lane = map stamp_of (came lane)

-- the lanes as the bus knows them, where this comes to it and it did this
abbrev pub lanes_known : Board → (BridgeLane → List Item) → List Stamped → World
lanes_known board came p = local_world board (all_carried came) (events_of p)

-- what a segment is, but for its ends of lanes and the events that it recorded
pub record SegmentView : Type 0 where
  pub bus : BusView
  -- the stamp of its last event, or what it began with
  pub stamp : ℕ
  -- it does nothing more
  pub stopped : Bool

-- one lane that ends on the bus, and its lane back: of what comes, `rest` did not arrive yet, and `sent` is what was
-- sent back, each item with the stamp of the event that put it there
pub record PortPast (board : Board) (came : BridgeLane → List Item) (p : List Stamped) (lane : BridgeLane) (rest sent : List Item) : Type 0 where
  pub arrived : List Item
  pub comes : came lane ≡ arrived ++ rest
  pub counted : length arrived ≡ arrivals lane (events_of p)
  pub left : (lanes_known board came p lane).flight ≡ map carried rest
  pub put : (lanes_known board came p (lane_back lane)).flight ≡ map carried sent
  pub stamps : put_stamps board (all_carried came) (lane_back lane) p ≡ map stamp_of sent

-- the bus keeps what it has to, to go on from this past
pub record Keeps (board : Board) (world : World) (p : List Stamped) (bus : BusView) : Type 0 where
  pub tags : By → OpId → ℕ
  pub stands : BusStands board tags world (events_of p) bus

-- The segment stands for a past: `came` is all that ever comes to the bus, whenever it was sent, `p` what the bus did of
-- its own, newest first, `rest` what comes at each port and did not arrive yet, and `sent` what was sent there.
pub record SegmentPast (board : Board) (came : BridgeLane → List Item) (p : List Stamped) (s : SegmentView) (rest sent : ℕ → List Item) : Type 0 where
  -- each event was allowed by what the bus knew
  pub run : LocalRun board s.bus.bus (all_carried came) (events_of p)
  -- nothing comes on a lane of no bridge
  pub bridges : (lane : BridgeLane) → bridge_to board lane.bus ≡ None → came lane ≡ []
  -- no stamp is below an older one, and each arrival's is above that of its item
  pub never_fall : NeverFall p
  pub up_to : AllByRecursion (λ (e : Stamped). e.stamp ≤ s.stamp) p
  pub in_time : AllInTime (all_stamps came) board p
  pub ports : (n : ℕ) (lane : BridgeLane) → slice_get (shape_of s.bus).lanes n ≡ Some lane → PortPast board came p lane (rest n) (sent n)
  -- until it stops, its tables and agents are those of this past
  pub keeps : s.stopped ≡ false → Keeps board (lanes_known board came p) p s.bus

-- Whatever comes to the bus, if it goes on with the items received at each port: the segment that stood for a past
-- stands for that past and the later events, and then it has sent these items besides.
pub record SegmentGoes (board : Board) (old new : SegmentView) (later : List Stamped) (received puts : ℕ → List Item) : Type 0 where
  pub goes : (came : BridgeLane → List Item) (p : List Stamped) (rest sent : ℕ → List Item)
      → SegmentPast board came p old (λ n. received n ++ rest n) sent → SegmentPast board came (later ++ p) new rest (λ n. sent n ++ puts n)
