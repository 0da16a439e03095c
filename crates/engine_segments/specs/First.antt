-- The segments of a board before its first event: one a bus, with all that is on the bus. PCI-to-PCI Bridge Architecture
-- Specification 1.1, chapter 3 (from memory; the tree of buses).
use Rattle.std.specs.Prelude.{◌≡◌, ℕ, ◌≤◌, Bool, true, false, List, [], ◌∷◌, ◌++◌, length, map, Option, Some, None, ◌&&◌, ◌==◌, if◌then◌else◌, slice_get}
use Rattle.std.specs.List.{AllByRecursion, filter, range_with_len}
use Rattle.std.specs.List.Sorted.{IsStrictlyIncreasing}
use Rattle.board_model.specs.Limits.{most_agents, most_ports}
use Rattle.board_model.specs.declared.agents.Target.{Target}
use Rattle.board_model.specs.declared.bridge.Lane.{Lane as BridgeLane}
use Rattle.board_model.specs.declared.board.Board.{Board}
use Rattle.board_model.specs.Valid.{has_bridge_to, is_bus}
use Rattle.board_model.specs.Ways.{primary_of, end_of}
use Rattle.history_model.specs.Answers.{is_on}
use Rattle.bus_core.specs.Bus.{Shape, shape_of, arrivals_at, HasPlace, IsOf}
use Rattle.bus_segment.specs.declared.segment.Segment.{Segment}
use Rattle.bus_segment.specs.Stands.{WorkerView, SegmentStands}

-- Who is on which bus.

-- the buses of a board, by increasing number: bus 0, and one below each bridge
unfoldable pub buses_of : Board → List ℕ
buses_of board = filter (is_bus board) (range_with_len 0 256)

-- the bridge to the bus of this number is there, and hangs below the bus
abbrev pub is_below : Board → ℕ → ℕ → Bool
is_below board bus child = has_bridge_to board child && primary_of board child == bus

-- the buses below a bus, by increasing number
unfoldable pub children_of : Board → ℕ → List ℕ
children_of board bus = filter (is_below board bus) (range_with_len 0 256)

-- the lane of a bridge down to its secondary bus, and that up to its primary bus
abbrev pub down_to : ℕ → BridgeLane
down_to bus = record { bus = bus; up = false }

-- the same of the lane up
abbrev pub up_from : ℕ → BridgeLane
up_from bus = record { bus = bus; up = true }

-- the lane of the bridge to the bus itself, which bus 0 has not
abbrev pub own_lane : Board → ℕ → List BridgeLane
own_lane board bus = if has_bridge_to board bus then down_to bus ∷ [] else []

-- the lanes that end on a bus: that of its own bridge, then those of the bridges below by increasing number
abbrev pub lanes_to : Board → ℕ → List BridgeLane
lanes_to board bus = own_lane board bus ++ map up_from (children_of board bus)

-- the masters on a bus, by their places on the board
abbrev pub masters_on : Board → ℕ → List ℕ
masters_on board bus = filter (λ master. is_on bus (slice_get board.masters master)) (range_with_len 0 (length board.masters))

-- the target is there, and is on the bus
abbrev pub has_target : ℕ → Option Target → Bool
has_target bus None = false
has_target bus (Some target) = target.bus == bus

-- its targets, likewise
abbrev pub targets_on : Board → ℕ → List ℕ
targets_on board bus = filter (λ target. has_target bus (slice_get board.targets target)) (range_with_len 0 (length board.targets))

-- who is on a bus of the board
abbrev pub shape_on : Board → ℕ → Shape
shape_on board bus = record { bus = bus; lanes = lanes_to board bus; masters = masters_on board bus; targets = targets_on board bus }

-- Ends of lanes, bus by bus: one for each lane that ends there, in the order of these.

-- so many
abbrev pub AreEndsOf : {End : Type 0} → Board → List (List End) → Type 0
AreEndsOf board ends = map length ends ≡ map (λ bus. length (lanes_to board bus)) (buses_of board)

-- all alike
abbrev pub ends_alike : {End : Type 0} → Board → End → List (List End)
ends_alike board end = map (λ bus. map (λ lane. end) (lanes_to board bus)) (buses_of board)

-- Before the first event.

-- what a segment is, with its ends of lanes and its events
abbrev pub worker_of : {End : Type 0} → Segment End → WorkerView End
worker_of s = record {
  segment = record { bus = s.bus; stamp = s.stamp; stopped = s.stopped };
  ends = s.ends.items;
  events = s.events.items;
}

-- one bus of the board, with an end of a lane at each of its ports
pub record IsAtFirst {End : Type 0} (board : Board) (s : WorkerView End) : Type 0 where
  -- all that is on the bus, and nothing else, in this order
  pub shape : shape_of s.segment.bus ≡ shape_on board s.segment.bus.bus
  pub is_of : IsOf board (shape_of s.segment.bus)
  pub ends_there : (n : ℕ) (lane : BridgeLane) → slice_get (shape_of s.segment.bus).lanes n ≡ Some lane → end_of board lane ≡ s.segment.bus.bus
  pub one_a_port : length s.ends ≡ length s.segment.bus.ports
  -- few bridges and few masters
  pub few_ports : length s.segment.bus.ports ≤ most_ports
  pub few_masters : length s.segment.bus.masters ≤ most_agents
  -- nothing arrived, and nothing was done
  pub no_arrivals : AllByRecursion (λ count. count ≡ 0) (arrivals_at s.segment.bus)
  pub no_events : s.events ≡ []
  pub stamp : s.segment.stamp ≡ 0
  pub going : s.segment.stopped ≡ false
  -- whatever comes to the bus, it stands for a past in which nothing was received, done or sent
  pub stands : SegmentStands board s.segment [] (λ n. []) (λ n. [])

-- one for each bus of the board, by increasing number, with these ends of lanes
pub record AreAtFirst {End : Type 0} (board : Board) (ends : List (List End)) (segments : List (WorkerView End)) : Type 0 where
  pub buses : map (λ (s : WorkerView End). s.segment.bus.bus) segments ≡ buses_of board
  pub rise : IsStrictlyIncreasing (buses_of board)
  pub each_bus : (bus : ℕ) → is_bus board bus ≡ true → HasPlace (buses_of board) bus
  pub ends_are : map (λ (s : WorkerView End). s.ends) segments ≡ ends
  pub each : (k : ℕ) (s : WorkerView End) → slice_get segments k ≡ Some s → IsAtFirst board s
