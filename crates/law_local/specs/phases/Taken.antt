-- What a bus never meets in a run: an item that it may not take, and a request that goes back through its bridge. And
-- when no bus has anything more to do.
use Rattle.std.specs.Prelude.{◌≡◌, ◌≢◌, ℕ, Bool, true, false, List, ◌∷◌, Some}
use Rattle.pci_command.specs.declared.request.Request.{Request}
use Rattle.pci_command.specs.declared.op_id.OpId.{OpId}
use Rattle.board_model.specs.declared.bridge.Lane.{Lane as BridgeLane}
use Rattle.board_model.specs.declared.bridge.Place.TheVariants.{Lane}
use Rattle.board_model.specs.declared.board.Board.{Board}
use Rattle.board_model.specs.Requests.{request_of, is_posted}
use Rattle.board_model.specs.Claims.{claim}
use Rattle.board_model.specs.Ways.{end_of, lane_back}
use Rattle.board_model.specs.Valid.{is_bus}
use Rattle.history_model.specs.declared.event.By.{By}
use Rattle.history_model.specs.declared.event.By.TheVariants.{Lane as ByLane}
use Rattle.history_model.specs.declared.event.Event.{Event}
use Rattle.history_model.specs.declared.item.Carried.{Carried}
use Rattle.history_model.specs.declared.item.Carried.TheVariants.{Post, Ask, Done, Room, Gone}
use Rattle.history_model.specs.World.{World}
use Rattle.history_model.specs.Words.{through, without}
use Rattle.history_model.specs.Answers.{wants_in, answer_in}
use Rattle.history_model.specs.Local.{is_lawful_on}
use Rattle.law_local.specs.Known.{events_on, known}
use Rattle.law_local.specs.Quiet.{IsRetry, IsQuiet}

-- the operation is there, and its request on the bus is posted, or delayed
pub record HasRequest (board : Board) (bus : ℕ) (posted : Bool) (o : OpId) : Type 0 where
  pub request : Request
  pub is_request : request_of board o bus ≡ Some request
  pub kind : is_posted request ≡ posted

-- the operation of a posted item is a posted write, that of a delayed one a delayed request
abbrev pub HasItsKind : Board → ℕ → Carried → Type 0
HasItsKind board bus (Post op) = HasRequest board bus true op
HasItsKind board bus (Ask op slot) = HasRequest board bus false op
HasItsKind board bus (Done op slot outcome) = HasRequest board bus false op
HasItsKind board bus Room = Unit {0}
HasItsKind board bus (Gone slot) = Unit {0}

-- the next item that comes on a lane, as the bus knows it where the lane ends, passes its test and is of its kind
abbrev pub NextIsTaken : Board → (BridgeLane → List Carried) → List Event → Type 0
NextIsTaken board sent h =
    (lane : BridgeLane) (item : Carried) (rest : List Carried) → (known board sent (end_of board lane) h lane).flight ≡ item ∷ rest
    → (is_lawful_on board (known board sent (end_of board lane) h) lane item ≡ true) × HasItsKind board (end_of board lane) item

-- with this on the lanes and after these events of the bus: what a lane presents there is not claimed by its lane back
abbrev pub NeverBack : Board → World → List Event → BridgeLane → Type 0
NeverBack board world p lane =
    (o : OpId) (request : Request) → wants_in board world p (end_of board lane) (ByLane lane) o ≡ true → request_of board o (end_of board lane) ≡ Some request
    → claim board (end_of board lane) (without (through p o) request) ≢ Lane (lane_back lane)

-- so it is on every lane, by what the bus knows where the lane ends
abbrev pub NothingTurnsBack : Board → (BridgeLane → List Carried) → List Event → Type 0
NothingTurnsBack board sent h =
    (lane : BridgeLane) → NeverBack board (known board sent (end_of board lane) h) (events_on board (end_of board lane) h) lane

-- Complete.

-- on each bus of the board nothing more comes, and whatever is presented there gets a Retry, by what the bus knows
abbrev pub BusesAreQuiet : Board → (BridgeLane → List Carried) → List Event → Type 0
BusesAreQuiet board sent h = (bus : ℕ) → is_bus board bus ≡ true → IsQuiet board bus (known board sent bus h) (events_on board bus h)

-- with this on the lanes and after these events of the bus, whatever is presented there gets a Retry
abbrev pub AllGetARetry : Board → World → List Event → ℕ → Type 0
AllGetARetry board world p bus = (by : By) (o : OpId) → wants_in board world p bus by o ≡ true → IsRetry (answer_in board world p bus by o)
