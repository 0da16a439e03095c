-- Every way ends: PCI-to-PCI Bridge Architecture Specification 1.1, chapter 4 (address decoding) and section 3.1 (from memory)
-- (configuration transactions).
use Rattle.std.specs.Prelude.{◌≡◌, ℕ, ◌+◌, ◌-◌, ◌≤◌, Bool, true, false, length, ◌==◌, AllPairs, if◌then◌else◌}
use Rattle.std.specs.List.{IsDistinct, AllByRecursion}
use Rattle.list_facts.specs.Lists.{greatest}
use Rattle.board_model.specs.declared.bridge.Bridge.{Bridge}
use Rattle.board_model.specs.declared.bridge.Lane.{Lane as BridgeLane}
use Rattle.board_model.specs.declared.bridge.Place.TheVariants.{Lane}
use Rattle.board_model.specs.declared.op.Op.{Op}
use Rattle.board_model.specs.declared.board.Board.{Board}
use Rattle.board_model.specs.Requests.{request_on}
use Rattle.board_model.specs.Claims.{claim}
use Rattle.board_model.specs.Ways.{end_of, route_by, route_within, route_of, way, is_lane}
use Rattle.board_model.specs.Valid.{has_bridge_to}

-- two lanes of one bridge
abbrev pub same_bridge : BridgeLane → BridgeLane → Bool
same_bridge a b = a.bus == b.bus

-- the way of an operation from a bus, and where it ends
pub record WayEnds (board : Board) (op : Op) (on : ℕ) : Type 0 where
  -- it takes no bridge twice, in one direction or the other
  pub no_bridge_twice : IsDistinct same_bridge (way board op on)
  -- each of its lanes is of a bridge of the board
  pub of_bridges : AllByRecursion (λ (lane : BridgeLane). has_bridge_to board lane.bus ≡ true) (way board op on)
  -- so it is at most as long as the board has bridges
  pub within : length (way board op on) ≤ length board.bridges
  -- it goes up, and then down: behind a lane down stands no lane up
  pub up_then_down : AllPairs (λ (lane later : BridgeLane). later.up ≡ true → lane.up ≡ true) (way board op on)
  -- it ends at a target, at a header or at nobody
  pub ends : is_lane (route_of board op on).owner ≡ false
  -- however many claims may be followed beyond that
  pub followed : (n : ℕ) → length board.bridges ≤ n → route_within n board op on ≡ route_of board op on
  -- it is the lane that claims, and then the way from the end of that lane
  pub onwards : route_of board op on ≡ route_by (λ lane. route_of board op (end_of board lane)) on (claim board on (request_on op on))

-- the greatest number of a bus below a bridge
abbrev pub last_bus : Board → ℕ
last_bus board = greatest (λ (bridge : Bridge). bridge.bus) board.bridges

-- a number for each lane that falls along every way: on each lane further up, and then on each further down
abbrev pub rank : Board → BridgeLane → ℕ
rank board lane = if lane.up then last_bus board + lane.bus else last_bus board - lane.bus

-- the first lane claims the operation on the bus, and the next one claims it where that lane ends
pub record GoesOn (board : Board) (op : Op) (on : ℕ) (lane next : BridgeLane) : Type 0 where
  pub first : claim board on (request_on op on) ≡ Lane lane
  pub second : claim board (end_of board lane) (request_on op (end_of board lane)) ≡ Lane next
