-- What a bus does when an initiator presents an operation there, wherever the bus stands for what is on the lanes and for
-- its past.
use Rattle.std.specs.Prelude.{◌≡◌, ◌≢◌, ℕ, ◌==◌, List, [], ◌∷◌, ◌++◌, map, Option, Some, None, slice_get, if◌then◌else◌}
use Rattle.pci_command.specs.declared.request.Request.{Request}
use Rattle.pci_command.specs.declared.op_id.OpId.{OpId}
use Rattle.board_model.specs.declared.bridge.Lane.{Lane as BridgeLane}
use Rattle.board_model.specs.declared.bridge.Place.TheVariants.{Lane}
use Rattle.board_model.specs.declared.board.Board.{Board}
use Rattle.board_model.specs.Requests.{request_of}
use Rattle.board_model.specs.Claims.{claim}
use Rattle.board_model.specs.Ways.{lane_back}
use Rattle.history_model.specs.declared.event.By.{By}
use Rattle.history_model.specs.declared.event.By.TheVariants.{Lane as ByLane}
use Rattle.history_model.specs.declared.event.Event.{Event}
use Rattle.history_model.specs.declared.event.Event.TheVariants.{Act}
use Rattle.history_model.specs.declared.item.Answer.{Answer}
use Rattle.history_model.specs.declared.item.Answer.TheVariants.{Gives, Retry}
use Rattle.history_model.specs.declared.item.Cause.{Cause}
use Rattle.history_model.specs.World.{World}
use Rattle.history_model.specs.Words.{through, without}
use Rattle.history_model.specs.Answers.{answer_in}
use Rattle.law_lanes.specs.Latched.{IsAt}
use Rattle.lane_items.specs.declared.item.Item.{Item}
use Rattle.lane_items.specs.declared.item.Item.TheVariants.{Post, Ask, Done, Room, Gone}
use Rattle.bus_face.specs.Arrivals.{carried}
use Rattle.bus_face.specs.Stands.{IsTag}
use Rattle.bus_core.specs.port.Calls.{after_answer}
use Rattle.bus_core.specs.declared.given.Sent.{Sent}
use Rattle.bus_core.specs.Bus.{BusView, Shape, shape_of, BusStandsAt, BusStands}

-- the past after an answer: a Retry is no event
abbrev pub past_after : ℕ → By → OpId → Answer → List Event → List Event
past_after bus by o (Gives step place) p = Act bus by o step place ∷ p
past_after bus by o (Retry cause) p = p

-- the stamp of an item: that of the event that sent it
abbrev pub stamp_of : Item → ℕ
stamp_of (Post op stamp) = stamp
stamp_of (Ask op slot stamp) = stamp
stamp_of (Done op slot outcome stamp) = stamp
stamp_of (Room stamp) = stamp
stamp_of (Gone slot stamp) = stamp

-- what is sent, if anything is, has this stamp
abbrev pub IsStamped : ℕ → Option Sent → Type 0
IsStamped stamp None = Unit {0}
IsStamped stamp (Some sent) = stamp_of sent.item ≡ stamp

-- what is sent, if anything is, is sent at another port than that of this line
abbrev pub IsElsewhere : ℕ → Option Sent → Type 0
IsElsewhere line None = Unit {0}
IsElsewhere line (Some sent) = sent.place ≢ line

-- the items sent at a port, where one is sent at some port
abbrev pub items_at : Option Sent → ℕ → List Item
items_at None n = []
items_at (Some sent) n = if sent.place == n then sent.item ∷ [] else []

-- at each port as much is in flight to the bus as before, and these items more from it
pub record Flights (shape : Shape) (before after : World) (puts : ℕ → List Item) : Type 0 where
  pub to_bus : (n : ℕ) (lane : BridgeLane) → slice_get shape.lanes n ≡ Some lane → (after lane).flight ≡ (before lane).flight
  pub from_bus : (n : ℕ) (lane : BridgeLane) → slice_get shape.lanes n ≡ Some lane → (after (lane_back lane)).flight ≡ (before (lane_back lane)).flight ++ map carried (puts n)

-- an initiator on the bus presents the operation, with this request line
pub record IsLine (board : Board) (bus : ℕ) (tags : By → OpId → ℕ) (by : By) (o : OpId) (line : ℕ) : Type 0 where
  pub line_is : tags by o ≡ line
  pub tells : IsTag board bus tags by o line
  pub there : IsAt board bus by o

-- the answer is that of the model, and who claims has done its part of it: the masters do not know of it yet
pub record Answered (board : Board) (tags : By → OpId → ℕ) (world : World) (p : List Event) (by : By) (o : OpId) (old : BusView) (answer : Answer) (over : Option Sent) (new : BusView) : Type 0 where
  pub answer_is : answer_in board world p old.bus by o ≡ answer
  pub stands : BusStandsAt board tags (after_answer board old.bus by o answer world) p (past_after old.bus by o answer p) new
  pub flights : Flights (shape_of old) world (after_answer board old.bus by o answer world) (items_at over)

-- whatever the bus stands for, who has this request line and presents the operation is answered so
pub record BusAnswers (board : Board) (old : BusView) (line : ℕ) (o : OpId) (answer : Answer) (over : Option Sent) (new : BusView) : Type 0 where
  pub answers : (tags : By → OpId → ℕ) (world : World) (p : List Event) (by : By) → IsLine board old.bus tags by o line → BusStands board tags world p old
      → Answered board tags world p by o old answer over new

-- a Retry leaves the bus as it was
pub record BusStaysAtRetry (old : BusView) (answer : Answer) (new : BusView) : Type 0 where
  pub stays : (cause : Cause) → answer ≡ Retry cause → new ≡ old

-- what the lane presents is claimed by its lane back
pub record ClaimedBack (board : Board) (bus : ℕ) (p : List Event) (by : By) (o : OpId) : Type 0 where
  pub lane : BridgeLane
  pub is_by : by ≡ ByLane lane
  pub request : Request
  pub is_request : request_of board o bus ≡ Some request
  pub claims : claim board bus (without (through p o) request) ≡ Lane (lane_back lane)

-- so it is of what the initiator with this request line presents, whatever the bus stands for
pub record TurnsBack (board : Board) (old : BusView) (line : ℕ) (o : OpId) : Type 0 where
  pub turns : (tags : By → OpId → ℕ) (world : World) (p : List Event) (by : By) → IsLine board old.bus tags by o line → BusStands board tags world p old
      → ClaimedBack board old.bus p by o
