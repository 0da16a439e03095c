-- What each bus knows, by its own events and by what came to it, and the world. A bridge joins two buses, and each
-- has one of its faces (PCI-to-PCI Bridge Architecture Specification 1.1, chapter 5, from memory): what stands on a
-- lane, and what came on it, is known where the lane ends, and what is held and owed for it where it begins.
use Rattle.std.specs.Prelude.{◌≡◌, ℕ, List, [], ◌∷◌, ◌++◌, ◌==◌, if◌then◌else◌}
use Rattle.board_model.specs.declared.bridge.Lane.{Lane as BridgeLane}
use Rattle.board_model.specs.declared.board.Board.{Board}
use Rattle.board_model.specs.Ways.{start_of, end_of}
use Rattle.history_model.specs.declared.event.Event.{Event}
use Rattle.history_model.specs.declared.item.Carried.{Carried}
use Rattle.history_model.specs.Lanes.{LaneState}
use Rattle.history_model.specs.World.{World, world_of}
use Rattle.history_model.specs.Runs.{Run}
use Rattle.history_model.specs.Local.{bus_of, local_world}

-- the events of one bus
abbrev pub events_on : Board → ℕ → List Event → List Event
events_on board bus [] = []
events_on board bus (e ∷ h) = if bus_of board e == bus then e ∷ events_on board bus h else events_on board bus h

-- of all that is ever sent, what comes to one bus: what is sent on the lanes that end there
abbrev pub coming_to : Board → ℕ → (BridgeLane → List Carried) → BridgeLane → List Carried
coming_to board bus sent lane = if end_of board lane == bus then sent lane else []

-- only what is between two buses carries anything: nothing is ever sent on a lane that ends on the bus where it begins
abbrev pub BetweenBuses : Board → (BridgeLane → List Carried) → Type 0
BetweenBuses board sent = (lane : BridgeLane) → end_of board lane ≡ start_of board lane → sent lane ≡ []

-- the lanes as one bus knows them by its own events of a history. Nothing comes to it on a lane that begins there: so
-- what is in flight on such a lane is all that it has sent there
abbrev pub known : Board → (BridgeLane → List Carried) → ℕ → List Event → World
known board sent bus h = local_world board (coming_to board bus sent) (events_on board bus h)

-- one lane: as it is in the world, as the bus knows it where it ends (`far`), and as the bus knows it where it begins
-- (`near`); `all` is what is ever sent on it, and `later` what of that is not sent yet
pub record Joint (all : List Carried) (world far near : LaneState) : Type 0 where
  pub asks : world.asks ≡ far.asks
  pub dones : world.dones ≡ far.dones
  pub standing : world.standing ≡ far.standing
  pub held : world.held ≡ near.held
  pub owed : world.owed ≡ near.owed
  pub later : List Carried
  pub flight : world.flight ++ later ≡ far.flight
  pub sent : near.flight ++ later ≡ all

-- after a history every lane of the world is what the two buses at its ends know
abbrev pub AllJoint : Board → (BridgeLane → List Carried) → List Event → Type 0
AllJoint board sent h =
    (lane : BridgeLane) → Joint (sent lane) (world_of board h lane) (known board sent (end_of board lane) h lane) (known board sent (start_of board lane) h lane)

-- a run of the board, in which the buses know what is on each lane
pub record JointRun (board : Board) (sent : BridgeLane → List Carried) (h : List Event) : Type 0 where
  pub run : Run board h
  pub joint : AllJoint board sent h
