-- Where the targets and bridges of each bus stand on a board.
use Rattle.std.specs.Prelude.{ℕ, Bool, false, List, map, Option, Some, None}
use Rattle.std.specs.Borrow.{Bor}
use Rattle.std.specs.List.{list_any}
use Rattle.pci_command.specs.declared.command.Space.{Space}
use Rattle.board_model.specs.declared.agents.Target.{Target}
use Rattle.board_model.specs.declared.bridge.Bridge.{Bridge}
use Rattle.board_model.specs.declared.board.Board.{Board}
use Rattle.board_model.specs.Claims.{range_holds, bridge_holds}
use Rattle.board_tree.specs.declared.sites.Sites.{Sites}
use Rattle.board_tree.specs.Chains.{AreChained}

-- the bus of each target
abbrev pub buses_of : List Target → List ℕ
buses_of targets = map (λ (target : Target). target.bus) targets

-- the bus above each bridge
abbrev pub primaries_of : List Bridge → List ℕ
primaries_of bridges = map (λ (bridge : Bridge). bridge.parent) bridges

-- the bus below each bridge
abbrev pub secondaries_of : List Bridge → List ℕ
secondaries_of bridges = map (λ (bridge : Bridge). bridge.bus) bridges

-- the sites are those of the board: its targets are chained by their bus, its bridges by that above and by that below them
pub record AreSites (board : Board) (sites : Sites) : Type 0 where
  pub targets : AreChained (buses_of board.targets) sites.targets
  pub below : AreChained (primaries_of board.bridges) sites.below
  pub above : AreChained (secondaries_of board.bridges) sites.above

-- so they are where they are known
abbrev pub AreKnown : Board → Option (Bor Sites) → Type 0
AreKnown board None = Unit {0}
AreKnown board (Some sites) = AreSites board sites.now

-- the bus of what may be a target; 0 where there is none
abbrev pub bus_of_target : Option Target → ℕ
bus_of_target None = 0
bus_of_target (Some target) = target.bus

-- the bus below what may be a bridge; 0 where there is none
abbrev pub secondary_in : Option Bridge → ℕ
secondary_in None = 0
secondary_in (Some bridge) = bridge.bus

-- whether a target is there and has the address in one of its ranges
abbrev pub claims_at : Space → ℕ → Option Target → Bool
claims_at space address None = false
claims_at space address (Some target) = list_any (range_holds space address) target.ranges

-- whether a bridge is there and has the address in a window for its space
abbrev pub holds_at : Space → ℕ → Option Bridge → Bool
holds_at space address None = false
holds_at space address (Some bridge) = bridge_holds space address bridge
