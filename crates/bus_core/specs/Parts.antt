-- What a bus answers, by who claims what is left of a request.
use Rattle.std.specs.Prelude.{◌≡◌, ℕ, ◌+◌, ◌*◌, ◌^◌, ◌<◌, true, List, drop, Some, Option, slice_get}
use Rattle.pci_command.specs.declared.request.Request.{Request}
use Rattle.pci_command.specs.declared.op_id.OpId.{OpId}
use Rattle.board_model.specs.declared.bridge.Place.{Place}
use Rattle.board_model.specs.declared.board.Board.{Board}
use Rattle.board_model.specs.Requests.{request_of}
use Rattle.board_model.specs.Claims.{claim}
use Rattle.board_model.specs.WellFormed.{is_well_formed}
use Rattle.history_model.specs.declared.event.By.{By}
use Rattle.history_model.specs.declared.event.By.TheVariants.{Lane as ByLane}
use Rattle.history_model.specs.declared.event.Step.{Step}
use Rattle.history_model.specs.declared.event.Event.{Event}
use Rattle.history_model.specs.declared.item.Answer.{Answer}
use Rattle.history_model.specs.World.{World, at_initiator}
use Rattle.history_model.specs.Words.{through, without}
use Rattle.bus_face.specs.declared.offer.Offer.{Offer}
use Rattle.bus_core.specs.port.Port.{PortView, PortStands}
use Rattle.bus_core.specs.declared.given.Sent.{Sent}
use Rattle.bus_core.specs.Bus.{BusView, shape_of, IsOf, BusStands}
use Rattle.bus_core.specs.Calls.{items_at, Flights, IsLine, Answered, ClaimedBack}

-- what is left of a request of which so many data phases went through
pub record IsRest (gone : ℕ) (request rest : Request) : Type 0 where
  pub command : rest.command ≡ request.command
  pub phases : rest.phases ≡ drop gone request.phases
  pub range : request.address < 2 ^ 64
  pub address : request.address + 4 * gone < 2 ^ 64 → rest.address ≡ request.address + 4 * gone

-- the place claims what is left of the request
pub record IsClaimed (board : Board) (bus : ℕ) (p : List Event) (o : OpId) (request rest : Request) (place : Place) : Type 0 where
  pub formed : is_well_formed board ≡ true
  pub is_request : request_of board o bus ≡ Some request
  pub is_rest : rest ≡ without (through p o) request
  pub claims : claim board bus rest ≡ place

-- the bus answers so wherever this place claims what is left of the request
pub record PlaceAnswers (board : Board) (old : BusView) (place : Place) (line : ℕ) (o : OpId) (request rest : Request) (answer : Answer) (over : Option Sent) (new : BusView) : Type 0 where
  pub answers : (tags : By → OpId → ℕ) (world : World) (p : List Event) (by : By) → IsLine board old.bus tags by o line → BusStands board tags world p old
      → IsClaimed board old.bus p o request rest place → Answered board tags world p by o old answer over new

-- the operation turns back wherever this place claims what is left of the request
pub record PlaceTurns (board : Board) (old : BusView) (place : Place) (line : ℕ) (o : OpId) (request rest : Request) : Type 0 where
  pub turns : (tags : By → OpId → ℕ) (world : World) (p : List Event) (by : By) → IsLine board old.bus tags by o line → BusStands board tags world p old
      → IsClaimed board old.bus p o request rest place → ClaimedBack board old.bus p by o

-- whoever claims it
pub record RequestAnswers (board : Board) (old : BusView) (line : ℕ) (o : OpId) (request : Request) (answer : Answer) (over : Option Sent) (new : BusView) : Type 0 where
  pub answers : (tags : By → OpId → ℕ) (world : World) (p : List Event) (by : By) → IsLine board old.bus tags by o line → BusStands board tags world p old
      → request_of board o old.bus ≡ Some request → Answered board tags world p by o old answer over new

-- the same of an operation that turns back
pub record RequestTurns (board : Board) (old : BusView) (line : ℕ) (o : OpId) (request : Request) : Type 0 where
  pub turns : (tags : By → OpId → ℕ) (world : World) (p : List Event) (by : By) → IsLine board old.bus tags by o line → BusStands board tags world p old
      → request_of board o old.bus ≡ Some request → ClaimedBack board old.bus p by o

-- an item that the lane presented was answered with this step: wherever the ports stood for what is on the lanes, they
-- stand for what is there after what the step does at the initiator
pub record TellsLane (board : Board) (place : ℕ) (offer : Offer) (step : Step) (old : BusView) (back : Option Sent) (new : BusView) : Type 0 where
  pub masters : new.masters ≡ old.masters
  pub targets : new.targets ≡ old.targets
  pub through : new.through ≡ old.through
  pub stands : (tags : By → OpId → ℕ) (world : World) (port : PortView) → slice_get old.ports place ≡ Some port → IsOf board (shape_of old)
      → ((n : ℕ) (other : PortView) → slice_get old.ports n ≡ Some other → PortStands board old.bus tags other world)
      → (n : ℕ) (other : PortView) → slice_get new.ports n ≡ Some other → PortStands board old.bus tags other (at_initiator board (ByLane port.lane) offer.op step world)
  pub flights : (tags : By → OpId → ℕ) (world : World) (port : PortView) → slice_get old.ports place ≡ Some port → IsOf board (shape_of old)
      → ((n : ℕ) (other : PortView) → slice_get old.ports n ≡ Some other → PortStands board old.bus tags other world)
      → Flights (shape_of old) world (at_initiator board (ByLane port.lane) offer.op step world) (items_at back)
