-- How much is left on the two lanes of a bridge, by what its two buses did and what came to each, whenever it came.
use Rattle.std.specs.Prelude.{◌≡◌, ◌≢◌, ℕ, ◌+◌, ◌<◌, ◌≤◌, List, [], ◌∷◌, ◌++◌, map, length}
use Rattle.board_model.specs.declared.bridge.Lane.{Lane as BridgeLane}
use Rattle.board_model.specs.declared.board.Board.{Board}
use Rattle.board_model.specs.Ways.{start_of, end_of, lane_back}
use Rattle.history_model.specs.declared.event.Event.{Event}
use Rattle.history_model.specs.declared.item.Carried.{Carried}
use Rattle.history_model.specs.World.{World}
use Rattle.lane_items.specs.declared.item.Item.{Item}
use Rattle.history_model.specs.Local.{bus_of, local_world, AllowedLocally, LocalRun}

-- `came` is what came to each bus so far, on each lane that ends there, and `part` what each bus did so far, newest event
-- first.

-- the lanes as one bus knows them
abbrev pub lanes_at : Board → (ℕ → BridgeLane → List Carried) → (ℕ → List Event) → ℕ → World
lanes_at board came part bus = local_world board (came bus) (part bus)

-- what was put on a lane: nothing comes to the bus where it begins, so this is all that is in flight on it as that bus
-- knows it
abbrev pub put_on : Board → (ℕ → BridgeLane → List Carried) → (ℕ → List Event) → BridgeLane → List Carried
put_on board came part lane = (lanes_at board came part (start_of board lane) lane).flight

-- what came on a lane and did not arrive yet: what is in flight on it as the bus knows it where it ends
abbrev pub came_on : Board → (ℕ → BridgeLane → List Carried) → (ℕ → List Event) → BridgeLane → List Carried
came_on board came part lane = (lanes_at board came part (end_of board lane) lane).flight

-- the two buses of a bridge each did what it may by what it knows
pub record TwoRuns (board : Board) (came : ℕ → BridgeLane → List Carried) (part : ℕ → List Event) (lane : BridgeLane) : Type 0 where
  pub apart : end_of board lane ≢ start_of board lane
  pub near : LocalRun board (start_of board lane) (came (start_of board lane)) (part (start_of board lane))
  pub far : LocalRun board (end_of board lane) (came (end_of board lane)) (part (end_of board lane))
  -- nothing comes to a bus on a lane that begins there
  pub none_near : came (start_of board lane) lane ≡ []
  pub none_far : came (end_of board lane) (lane_back lane) ≡ []

-- and on each of the two lanes between them what came is a front of what was put there, and this is left
pub record Leaves (board : Board) (came : ℕ → BridgeLane → List Carried) (part : ℕ → List Event) (lane : BridgeLane) (left left_back : List Carried) : Type 0 where
  pub runs : TwoRuns board came part lane
  pub here : came (end_of board lane) lane ++ left ≡ put_on board came part lane
  pub back : came (start_of board lane) (lane_back lane) ++ left_back ≡ put_on board came part (lane_back lane)

-- on each of the two lanes at most so many items are left, or came and did not arrive yet
pub record HasRoom (most : ℕ) (board : Board) (came : ℕ → BridgeLane → List Carried) (part : ℕ → List Event) (lane : BridgeLane) (left left_back : List Carried) : Type 0 where
  pub here : length (came_on board came part lane) + length left ≤ most
  pub back : length (came_on board came part (lane_back lane)) + length left_back ≤ most

-- the event may be the next of the bus where the lane begins, by what that bus knows, and puts more on the lane
pub record Puts (board : Board) (came : ℕ → BridgeLane → List Carried) (part : ℕ → List Event) (lane : BridgeLane) (e : Event) : Type 0 where
  pub here : bus_of board e ≡ start_of board lane
  pub allowed : AllowedLocally board (came (start_of board lane)) (part (start_of board lane)) e
  pub more : length (put_on board came part lane) < length (local_world board (came (start_of board lane)) (e ∷ part (start_of board lane)) lane).flight

-- One lane in a phase of its ends: `before` came before the phase, `had` was in hand when it began, and in the phase `got`
-- was got and `sent` was sent, where `carries` says what an item carries.
pub record LaneInPhase (carries : Item → Carried) (board : Board) (came : ℕ → BridgeLane → List Carried) (part : ℕ → List Event) (lane : BridgeLane) (before had got sent : List Item) : Type 0 where
  -- all that came to the bus was got; a bus that stopped does not take the last that it got
  pub not_taken : List Carried
  pub came_is : came (end_of board lane) lane ++ not_taken ≡ map carries (before ++ got)
  -- and all that was put came before, was in hand or was sent
  pub put_is : put_on board came part lane ≡ map carries (before ++ (had ++ sent))
