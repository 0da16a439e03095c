-- What comes of an initiator that is granted the bus, and of an item that comes to a port, wherever the bus stands for what
-- is on the lanes and for its past.
use Rattle.std.specs.Prelude.{◌≡◌, ◌≢◌, ℕ, ◌+◌, Bool, true, false, not, ◌&&◌, List, [], ◌∷◌, ◌++◌, map, option_to_list, Option, Some, None, slice_get, ◌==◌, if◌then◌else◌}
use Rattle.std.specs.List.{list_any}
use Rattle.pci_command.specs.declared.request.Request.{Request}
use Rattle.pci_command.specs.declared.op_id.OpId.{OpId}
use Rattle.board_model.specs.declared.bridge.Lane.{Lane as BridgeLane}
use Rattle.board_model.specs.declared.bridge.Place.{Place}
use Rattle.board_model.specs.declared.board.Board.{Board}
use Rattle.board_model.specs.Requests.{request_of, is_posted}
use Rattle.board_model.specs.Ways.{lane_back}
use Rattle.history_model.specs.declared.event.By.{By}
use Rattle.history_model.specs.declared.event.By.TheVariants.{Master, Lane as ByLane}
use Rattle.history_model.specs.declared.event.Mark.{Mark}
use Rattle.history_model.specs.declared.event.Step.{Step}
use Rattle.history_model.specs.declared.event.Event.{Event}
use Rattle.history_model.specs.declared.event.Event.TheVariants.{Act, Arrive}
use Rattle.history_model.specs.declared.item.Answer.{Answer}
use Rattle.history_model.specs.declared.item.Answer.TheVariants.{Gives, Retry}
use Rattle.history_model.specs.declared.item.Carried.{Carried}
use Rattle.history_model.specs.declared.item.Carried.TheVariants.{Post, Ask, Done, Room, Gone}
use Rattle.history_model.specs.declared.item.Cause.{Cause}
use Rattle.history_model.specs.Lanes.{arrives}
use Rattle.history_model.specs.World.{World, moved, after}
use Rattle.history_model.specs.Answers.{wants_in, answer_in}
use Rattle.history_model.specs.Runs.{next_mark_in}
use Rattle.history_model.specs.Local.{is_lawful_on}
use Rattle.lane_items.specs.declared.item.Item.{Item}
use Rattle.bus_face.specs.declared.offer.Offer.{Offer}
use Rattle.bus_face.specs.Arrivals.{carried}
use Rattle.bus_face.specs.Offers.{is_offer_of}
use Rattle.bus_core.specs.declared.given.Sent.{Sent}
use Rattle.bus_core.specs.declared.given.Acted.{Acted}
use Rattle.bus_core.specs.declared.given.Served.{Served}
use Rattle.bus_core.specs.declared.given.Served.TheVariants.{Nothing, Retried, TurnsBack as Back, Did}
use Rattle.bus_agents.specs.Turns.{MasterView}
use Rattle.bus_core.specs.Bus.{BusView, shape_of, BusStands}
use Rattle.bus_core.specs.Places.{OneChanged, TestsAt}
use Rattle.bus_core.specs.Calls.{past_after, stamp_of, items_at, IsStamped, Flights, ClaimedBack}

-- Acts.

-- the lanes after an answer, with what that does at the initiator: a Retry leaves them as they were
abbrev pub lanes_after : Board → ℕ → By → OpId → Answer → World → World
lanes_after board bus by o (Gives step place) world = after board world (Act bus by o step place)
lanes_after board bus by o (Retry cause) world = world

-- the initiator presents the operation, it is answered so, and the bus stands for the past after that; what is sent is
-- sent at these ports
pub record Presents (board : Board) (tags : By → OpId → ℕ) (world : World) (p : List Event) (by : By) (o : OpId) (old : BusView) (answer : Answer) (over back : Option Sent) (new : BusView) : Type 0 where
  pub wanted : wants_in board world p old.bus by o ≡ true
  pub answer_is : answer_in board world p old.bus by o ≡ answer
  pub stands : BusStands board tags (lanes_after board old.bus by o answer world) (past_after old.bus by o answer p) new
  pub flights : Flights (shape_of old) world (lanes_after board old.bus by o answer world) (λ n. items_at over n ++ items_at back n)

-- so it is whatever the bus stands for
pub record BusPresents (board : Board) (by : By) (o : OpId) (old : BusView) (answer : Answer) (over back : Option Sent) (new : BusView) : Type 0 where
  pub presents : (tags : By → OpId → ℕ) (world : World) (p : List Event) → BusStands board tags world p old → Presents board tags world p by o old answer over back new

-- what the lane presents is claimed by its lane back
pub record BusTurnsBack (board : Board) (by : By) (o : OpId) (old : BusView) : Type 0 where
  pub wanted : (tags : By → OpId → ℕ) (world : World) (p : List Event) → BusStands board tags world p old → wants_in board world p old.bus by o ≡ true
  pub turns : (tags : By → OpId → ℕ) (world : World) (p : List Event) → BusStands board tags world p old → ClaimedBack board old.bus p by o

-- the event, and what is sent
pub record IsAct (board : Board) (by : By) (o : OpId) (old : BusView) (acted : Acted) (new : BusView) : Type 0 where
  pub step : Step
  pub place : Place
  pub event : acted.event ≡ Act old.bus by o step place
  pub presents : BusPresents board by o old (Gives step place) acted.over acted.back new

-- what comes of an operation that is presented
abbrev pub Serves : Board → By → OpId → BusView → Served → BusView → Type 0
Serves board by o old Nothing new = ⊥
Serves board by o old Retried new = (cause : Cause) × BusPresents board by o old (Retry cause) None None new
Serves board by o old Back new = BusTurnsBack board by o old
Serves board by o old (Did acted) new = IsAct board by o old acted new

-- what is sent has this stamp
abbrev pub SendsStamped : ℕ → Served → Type 0
SendsStamped stamp Nothing = Unit {0}
SendsStamped stamp Retried = Unit {0}
SendsStamped stamp Back = Unit {0}
SendsStamped stamp (Did acted) = IsStamped stamp acted.over × IsStamped stamp acted.back

-- what is sent, if anything is, is sent at the port of this place
abbrev pub IsAt : ℕ → Option Sent → Type 0
IsAt place None = Unit {0}
IsAt place (Some sent) = sent.place ≡ place

-- what goes back is sent at another port than what goes on
abbrev pub SendsApart : Served → Type 0
SendsApart Nothing = Unit {0}
SendsApart Retried = Unit {0}
SendsApart Back = Unit {0}
SendsApart (Did acted) = (over back : Sent) → acted.over ≡ Some over → acted.back ≡ Some back → over.place ≢ back.place

-- what is offered is what the lane of the port presents
pub record BusOffers (place : ℕ) (s : BusView) (offers : List Offer) : Type 0 where
  pub wanted : (board : Board) (tags : By → OpId → ℕ) (world : World) (p : List Event) (lane : BridgeLane) (o : OpId) → slice_get (shape_of s).lanes place ≡ Some lane → BusStands board tags world p s
      → wants_in board world p s.bus (ByLane lane) o ≡ list_any (is_offer_of o) offers

-- a master presents its turn, if its program did not end
abbrev pub ServesTurn : Board → Option OpId → BusView → Served → BusView → Type 0
ServesTurn board None old presented new = (presented ≡ Nothing) × (new ≡ old)
ServesTurn board (Some o) old presented new = Serves board Master o old presented new

-- the same of the master at the place
pub record ServesMaster (board : Board) (place : ℕ) (old : BusView) (presented : Served) (new : BusView) : Type 0 where
  pub master : MasterView
  pub there : slice_get old.masters place ≡ Some master
  pub serves : ServesTurn board master.turn old presented new

-- Arrivals.

-- the request is there, and is posted or delayed as it should be
abbrev pub is_there_as : Bool → Option Request → Bool
is_there_as posted None = false
is_there_as true (Some request) = is_posted request
is_there_as false (Some request) = not (is_posted request)

-- the operation that the item names is there, and a posted item carries a write in memory, a delayed one any other
abbrev pub names_its_kind : Board → ℕ → Carried → Bool
names_its_kind board bus (Post op) = is_there_as true (request_of board op bus)
names_its_kind board bus (Ask op slot) = is_there_as false (request_of board op bus)
names_its_kind board bus (Done op slot outcome) = is_there_as false (request_of board op bus)
names_its_kind board bus Room = true
names_its_kind board bus (Gone slot) = true

-- the bus takes the item as the next on the lane: a lawful peer may have sent it, and it names what it carries
abbrev pub is_taken_on : Board → ℕ → World → BridgeLane → Carried → Bool
is_taken_on board bus world lane item = is_lawful_on board world lane item && names_its_kind board bus item

-- both tests, of which the first is by the tables of the port
pub record IsTested (board : Board) (place : ℕ) (s : BusView) (item : Carried) (taken : Bool) : Type 0 where
  pub lawful : Bool
  pub tests : TestsAt place s.ports item lawful
  pub taken_is : taken ≡ (lawful && names_its_kind board s.bus item)

-- what goes back, if anything does, has this stamp
abbrev pub HasStamp : ℕ → Option Item → Type 0
HasStamp stamp None = Unit {0}
HasStamp stamp (Some item) = stamp_of item ≡ stamp

-- one more item arrived at the port of this place, and none at the others
pub record OneMoreAt (place : ℕ) (old new : List ℕ) : Type 0 where
  pub before : ℕ
  pub one : OneChanged place old new before (before + 1)

-- an item that is not taken
pub record BusRefuses (board : Board) (place : ℕ) (old : BusView) (item : Item) : Type 0 where
  pub refuses : (tags : By → OpId → ℕ) (world : World) (p : List Event) (lane : BridgeLane) → slice_get (shape_of old).lanes place ≡ Some lane → BusStands board tags world p old
      → is_taken_on board old.bus world lane (carried item) ≡ false

-- what came at a port is taken off the lane, and elsewhere nothing is
abbrev pub taken_at : ℕ → Carried → List Carried → List Carried → ℕ → Type 0
taken_at place item before left n = before ≡ (if place == n then item ∷ left else left)

-- the item arrives with this mark: the bus stands for the past after that
pub record ArrivesAt (board : Board) (tags : By → OpId → ℕ) (world : World) (p : List Event) (lane : BridgeLane) (place : ℕ) (old : BusView) (item : Item) (mark : Mark) (back : Option Item) (new : BusView) : Type 0 where
  pub marked : next_mark_in board world lane ≡ Some mark
  pub stands : BusStands board tags (moved (arrives mark) lane world) (Arrive lane mark ∷ p) new
  pub to_bus : (n : ℕ) (l : BridgeLane) → slice_get (shape_of old).lanes n ≡ Some l → taken_at place (carried item) (world l).flight (moved (arrives mark) lane world l).flight n
  pub from_bus : (n : ℕ) (l : BridgeLane) → slice_get (shape_of old).lanes n ≡ Some l
      → (moved (arrives mark) lane world (lane_back l)).flight ≡ (world (lane_back l)).flight ++ (if place == n then map carried (option_to_list back) else [])

-- so it is whatever the bus stands for, if the item is the next on the lane of this port
pub record BusArrives (board : Board) (place : ℕ) (old : BusView) (item : Item) (mark : Mark) (back : Option Item) (new : BusView) : Type 0 where
  pub arrives : (tags : By → OpId → ℕ) (world : World) (p : List Event) (rest : List Carried) (lane : BridgeLane) → slice_get (shape_of old).lanes place ≡ Some lane → BusStands board tags world p old
      → (world lane).flight ≡ carried item ∷ rest → ArrivesAt board tags world p lane place old item mark back new
