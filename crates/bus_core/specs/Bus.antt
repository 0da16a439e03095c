-- One bus: what it keeps of the bridges and agents on it, and the past that this stands for, which is what the bus did
-- itself. PCI-to-PCI Bridge Architecture Specification 1.1, chapter 5, and PCI Local Bus Specification 2.2, section 3.3
-- (from memory).
use Rattle.std.specs.Prelude.{◌≡◌, ◌≢◌, ℕ, ◌+◌, ◌<◌, true, false, List, [], map, length, Some, slice_get, ◌⊎◌}
use Rattle.pci_command.specs.declared.request.Request.{Request}
use Rattle.pci_command.specs.declared.op_id.OpId.{OpId}
use Rattle.pci_command.specs.Command.{is_read}
use Rattle.board_model.specs.Limits.{most_ports}
use Rattle.board_model.specs.declared.agents.Target.{Target as TargetAgent}
use Rattle.board_model.specs.declared.bridge.Bridge.{Bridge}
use Rattle.board_model.specs.declared.bridge.Lane.{Lane as BridgeLane}
use Rattle.board_model.specs.declared.board.Board.{Board}
use Rattle.board_model.specs.Requests.{request_of}
use Rattle.board_model.specs.Ways.{end_of}
use Rattle.history_model.specs.declared.event.By.{By}
use Rattle.history_model.specs.declared.event.By.TheVariants.{Master, Lane as ByLane}
use Rattle.history_model.specs.declared.event.Event.{Event}
use Rattle.history_model.specs.declared.item.Carried.{Carried}
use Rattle.history_model.specs.World.{World}
use Rattle.history_model.specs.Local.{coming}
use Rattle.history_model.specs.Words.{through}
use Rattle.history_model.specs.Answers.{is_on, bridge_to}
use Rattle.bus_face.specs.Stands.{IsTag}
use Rattle.bus_core.specs.port.Port.{PortView, PortStands}
use Rattle.bus_core.specs.port.Calls.{PortStandsAtFirst}
use Rattle.bus_agents.specs.Turns.{MasterView, MasterStands}
use Rattle.bus_agents.specs.Through.{ThroughStands}
use Rattle.bus_targets.specs.State.{TargetView}
use Rattle.bus_targets.specs.Stands.{TargetStands}

-- what a bus keeps
pub record BusView : Type 0 where
  pub bus : ℕ
  -- its bridges: that to the bus itself first, then those below
  pub ports : List PortView
  pub masters : List MasterView
  pub targets : List TargetView
  -- how many data phases of each write went through in parts
  pub through : List (List ℕ)

-- who is on a bus: the lanes that end there, its masters and its targets, by their places on the board
pub record Shape : Type 0 where
  pub bus : ℕ
  pub lanes : List BridgeLane
  pub masters : List ℕ
  pub targets : List ℕ

-- who is on the bus, by what it keeps
abbrev pub shape_of : BusView → Shape
shape_of s =
    record {
      bus = s.bus;
      lanes = map (λ (port : PortView). port.lane) s.ports;
      masters = map (λ (m : MasterView). m.master) s.masters;
      targets = map (λ (t : TargetView). t.target) s.targets;
    }

-- how many items arrived at each of its ports
abbrev pub arrivals_at : BusView → List ℕ
arrivals_at s = map (λ (port : PortView). port.face.arrivals) s.ports

-- it has a place in the list
abbrev pub HasPlace : {X : Type 0} → List X → X → Type 0
HasPlace xs x = (place : ℕ) × (slice_get xs place ≡ Some x)

-- they are those of this bus of the board: each of them once, and no other
pub record IsOf (board : Board) (shape : Shape) : Type 0 where
  pub lanes_apart : (n m : ℕ) (a b : BridgeLane) → slice_get shape.lanes n ≡ Some a → slice_get shape.lanes m ≡ Some b → n ≢ m → a.bus ≢ b.bus
  pub each_lane : (lane : BridgeLane) (bridge : Bridge) → bridge_to board lane.bus ≡ Some bridge → end_of board lane ≡ shape.bus → HasPlace shape.lanes lane
  pub masters_apart : (n m a : ℕ) → slice_get shape.masters n ≡ Some a → slice_get shape.masters m ≡ Some a → n ≡ m
  pub masters_on : (n master : ℕ) → slice_get shape.masters n ≡ Some master → is_on shape.bus (slice_get board.masters master) ≡ true
  pub each_master : (master : ℕ) → is_on shape.bus (slice_get board.masters master) ≡ true → HasPlace shape.masters master
  pub targets_apart : (n m a : ℕ) → slice_get shape.targets n ≡ Some a → slice_get shape.targets m ≡ Some a → n ≡ m
  pub each_target : (target : ℕ) (agent : TargetAgent) → slice_get board.targets target ≡ Some agent → agent.bus ≡ shape.bus → HasPlace shape.targets target

-- the request line of an initiator tells it from all others: lines 0 to 8 are those of bridges, from 9 on those of masters
pub record AreLines (board : Board) (tags : By → OpId → ℕ) (shape : Shape) : Type 0 where
  pub lanes : (place : ℕ) (lane : BridgeLane) (o : OpId) → slice_get shape.lanes place ≡ Some lane
      → (tags (ByLane lane) o ≡ place) × IsTag board shape.bus tags (ByLane lane) o place
  pub masters : (place : ℕ) (o : OpId) → slice_get shape.masters place ≡ Some o.master
      → (tags Master o ≡ most_ports + place) × IsTag board shape.bus tags Master o (most_ports + place)

-- only of writes did data phases go through, and never all of them
abbrev pub PartsAreOfWrites : Board → ℕ → List Event → Type 0
PartsAreOfWrites board bus p =
    (o : OpId) (request : Request) → request_of board o bus ≡ Some request
    → (through p o ≡ 0) ⊎ ((is_read request.command ≡ false) × (through p o < length request.phases))

-- the bus stands for what is on the lanes and for a past: `q` is that of its masters, `p` that of its targets and parts
pub record BusStandsAt (board : Board) (tags : By → OpId → ℕ) (world : World) (q p : List Event) (s : BusView) : Type 0 where
  pub is_of : IsOf board (shape_of s)
  pub lines : AreLines board tags (shape_of s)
  pub ports : (n : ℕ) (port : PortView) → slice_get s.ports n ≡ Some port → PortStands board s.bus tags port world
  pub masters : (n : ℕ) (m : MasterView) → slice_get s.masters n ≡ Some m → MasterStands board q m
  pub targets : (n : ℕ) (t : TargetView) → slice_get s.targets n ≡ Some t → TargetStands board p t
  pub through : ThroughStands board p s.through
  pub parts : PartsAreOfWrites board s.bus p

-- of one past
abbrev pub BusStands : Board → (By → OpId → ℕ) → World → List Event → BusView → Type 0
BusStands board tags world p s = BusStandsAt board tags world p p s

-- before the first event: who is on the bus of a board, each as it is at first, stands for lanes on which nothing is but
-- what comes to the bus
pub record StandsAtFirst (s : BusView) : Type 0 where
  pub first : (board : Board) (tags : By → OpId → ℕ) (came : BridgeLane → List Carried) → IsOf board (shape_of s) → AreLines board tags (shape_of s)
      → ((n : ℕ) (port : PortView) → slice_get s.ports n ≡ Some port → PortStandsAtFirst board s.bus port)
      → ((n : ℕ) (m : MasterView) → slice_get s.masters n ≡ Some m → MasterStands board [] m)
      → ((n : ℕ) (t : TargetView) → slice_get s.targets n ≡ Some t → TargetStands board [] t)
      → ThroughStands board [] s.through → BusStands board tags (coming came) [] s
