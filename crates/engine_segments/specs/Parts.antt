-- What is on one bus before the first event, part by part.
use Rattle.std.specs.Prelude.{◌≡◌, ℕ, true, List, [], map}
use Rattle.std.specs.List.{AllByRecursion}
use Rattle.board_model.specs.declared.bridge.Lane.{Lane as BridgeLane}
use Rattle.board_model.specs.declared.board.Board.{Board}
use Rattle.board_model.specs.Valid.{has_bridge_to}
use Rattle.board_model.specs.Ways.{end_of}
use Rattle.bus_core.specs.port.Port.{PortView}
use Rattle.bus_core.specs.port.Calls.{PortStandsAtFirst}
use Rattle.bus_agents.specs.Turns.{MasterView, MasterStands}
use Rattle.bus_agents.specs.Through.{ThroughStands}
use Rattle.bus_targets.specs.State.{TargetView}
use Rattle.bus_targets.specs.Stands.{TargetStands}
use Rattle.bus_core.specs.Bus.{BusView, StandsAtFirst}
use Rattle.engine_segments.specs.First.{lanes_to, masters_on, targets_on}

-- the lane is one of a bridge of the board
abbrev pub IsOfBridge : Board → BridgeLane → Type 0
IsOfBridge board lane = has_bridge_to board lane.bus ≡ true

-- nothing arrived at the port, and it stands for that
pub record PortAtFirst (board : Board) (port : PortView) : Type 0 where
  pub none : port.face.arrivals ≡ 0
  pub first : PortStandsAtFirst board (end_of board port.lane) port

-- one for each lane
pub record PortsAtFirst (board : Board) (lanes : List BridgeLane) (ports : List PortView) : Type 0 where
  pub lanes_are : map (λ (port : PortView). port.lane) ports ≡ lanes
  pub each : AllByRecursion (PortAtFirst board) ports

-- the masters on the bus, each with its first operation to present
pub record MastersAtFirst (board : Board) (bus : ℕ) (masters : List MasterView) : Type 0 where
  pub masters_are : map (λ (m : MasterView). m.master) masters ≡ masters_on board bus
  pub each : AllByRecursion (MasterStands board []) masters

-- the targets on the bus, each with all its tokens and with the words that it opens with
pub record TargetsAtFirst (board : Board) (bus : ℕ) (targets : List TargetView) : Type 0 where
  pub targets_are : map (λ (t : TargetView). t.target) targets ≡ targets_on board bus
  pub each : AllByRecursion (TargetStands board []) targets

-- a bus before the first event, with all that is on it
pub record BusAtFirst (board : Board) (bus : ℕ) (s : BusView) : Type 0 where
  pub number : s.bus ≡ bus
  pub ports : PortsAtFirst board (lanes_to board bus) s.ports
  pub masters : MastersAtFirst board bus s.masters
  pub targets : TargetsAtFirst board bus s.targets
  pub through : ThroughStands board [] s.through
  pub first : StandsAtFirst s
