-- A turn of a segment, and when it stops.
use Rattle.std.specs.Prelude.{◌≡◌, ℕ, ◌+◌, ◌^◌, ◌<◌, ◌≤◌, max, Bool, true, false, ◌&&◌, nat_lt, List, [], ◌∷◌, ◌++◌, length, reverse, Option, Some, None, option_to_list, slice_get, ◌⊎◌}
use Rattle.pci_command.specs.declared.request.Request.{Request}
use Rattle.pci_command.specs.declared.op_id.OpId.{OpId}
use Rattle.board_model.specs.Limits.{most_waiting}
use Rattle.board_model.specs.declared.bridge.Lane.{Lane as BridgeLane}
use Rattle.board_model.specs.declared.bridge.Place.TheVariants.{Lane}
use Rattle.board_model.specs.declared.board.Board.{Board}
use Rattle.board_model.specs.Requests.{request_of}
use Rattle.board_model.specs.Claims.{claim}
use Rattle.board_model.specs.Ways.{lane_back}
use Rattle.history_model.specs.declared.event.By.{By}
use Rattle.history_model.specs.declared.event.By.TheVariants.{Lane as ByLane}
use Rattle.history_model.specs.declared.event.Event.{Event}
use Rattle.history_model.specs.declared.event.Event.TheVariants.{Arrive}
use Rattle.history_model.specs.declared.event.Mark.{Mark}
use Rattle.history_model.specs.declared.event.Stamped.{Stamped}
use Rattle.history_model.specs.declared.item.Carried.{Carried}
use Rattle.history_model.specs.World.{World}
use Rattle.history_model.specs.Words.{through, without}
use Rattle.history_model.specs.Answers.{wants_in, answer_in}
use Rattle.history_model.specs.Local.{bus_of, local_world, AllowedLocally}
use Rattle.law_local.specs.Stamps.{events_of}
use Rattle.law_local.specs.Quiet.{IsRetry}
use Rattle.lane_items.specs.declared.item.Item.{Item}
use Rattle.lane_items.specs.Lane.{in_hand}
use Rattle.bus_face.specs.Arrivals.{carried}
use Rattle.bus_core.specs.Bus.{BusView, shape_of}
use Rattle.bus_core.specs.declared.port.port.Arrival.{Arrival}
use Rattle.bus_core.specs.declared.given.Sent.{Sent}
use Rattle.bus_core.specs.declared.given.Acted.{Acted}
use Rattle.bus_core.specs.declared.given.Served.{Served}
use Rattle.bus_core.specs.declared.given.Served.TheVariants.{Nothing, Retried, TurnsBack as Back, Did}
use Rattle.bus_core.specs.Calls.{stamp_of}
use Rattle.bus_core.specs.Serves.{is_taken_on, HasStamp, BusRefuses, BusArrives}
use Rattle.bus_segment.specs.Segment.{SegmentView, SegmentPast, SegmentGoes, all_carried, lanes_known}
use Rattle.bus_segment.specs.Ends.{EndAfter, LacksRoom, SendsAt, SendsBoth, sent_at}

-- Stops.

-- the segment takes the item as the next on the lane: the bus does, and there are stamps above its own
abbrev pub is_allowed_on : Board → ℕ → World → BridgeLane → Item → Bool
is_allowed_on board bus world lane item = is_taken_on board bus world lane (carried item) && nat_lt (stamp_of item) (2 ^ 31)

-- what a lane presents is claimed by its lane back
pub record TurnsBack (board : Board) (bus : ℕ) (world : World) (p : List Event) (lane : BridgeLane) : Type 0 where
  pub op : OpId
  pub wanted : wants_in board world p bus (ByLane lane) op ≡ true
  pub request : Request
  pub is_request : request_of board op bus ≡ Some request
  pub claims : claim board bus (without (through p op) request) ≡ Lane (lane_back lane)

-- the event is allowed now, and puts one more item on the lane back
pub record Sends (board : Board) (bus : ℕ) (came : BridgeLane → List Carried) (p : List Event) (lane : BridgeLane) (e : Event) : Type 0 where
  pub here : bus_of board e ≡ bus
  pub allowed : AllowedLocally board came p e
  pub puts : length (local_world board came p (lane_back lane)).flight < length (local_world board came (e ∷ p) (lane_back lane)).flight

-- Why a segment stops after a past, at the port of this lane: an item came that is not taken; or what the lane presents
-- turns back; or the next event would send into an end that keeps as many items as it can.
abbrev pub Refuses : Board → ℕ → World → BridgeLane → Option Item → Type 0
Refuses board bus world lane None = ⊥
Refuses board bus world lane (Some item) = is_allowed_on board bus world lane item ≡ false

-- the end keeps 32 items, and an event that is allowed now would send one more there
abbrev pub HasNoRoom : Board → ℕ → (BridgeLane → List Item) → List Stamped → BridgeLane → ℕ → Type 0
HasNoRoom board bus came p lane kept = (kept ≡ most_waiting) × ((e : Event) × Sends board bus (all_carried came) (events_of p) lane e)

-- the segment stops at the port of this lane for one of these causes
pub record StopsAt (board : Board) (bus : ℕ) (came : BridgeLane → List Item) (p : List Stamped) (lane : BridgeLane) (refused : Option Item) (kept : ℕ) : Type 0 where
  pub cause : Refuses board bus (lanes_known board came p) lane refused ⊎ TurnsBack board bus (lanes_known board came p) (events_of p) lane ⊎ HasNoRoom board bus came p lane kept

-- Turns.

-- What a segment does in a turn: the events, newest first, what it received at each port and what it sent there, and
-- what it received last and did not take.
pub record Does {End : Type 0} (had sent got : End → List Item) (kept : End → ℕ) (paired : End → End → Type 0) (board : Board) (old new : SegmentView) (ends after : List End) (events kept_events : List Stamped) : Type 0 where
  pub later : List Stamped
  pub received : ℕ → List Item
  pub refused : ℕ → Option Item
  pub puts : ℕ → List Item
  -- it stands for its past and these events
  pub goes : SegmentGoes board old new later received puts
  pub recorded : kept_events ≡ events ++ reverse later
  -- each end received and was sent just this
  pub many : length after ≡ length ends
  pub at_ends : (n : ℕ) (end end_after : End) → slice_get ends n ≡ Some end → slice_get after n ≡ Some end_after → EndAfter had sent got paired end end_after (received n) (refused n) (puts n)
  -- nothing is refused while it goes on
  pub none_refused : new.stopped ≡ false → (n : ℕ) → refused n ≡ None
  -- and it stops for a cause alone, where what is refused came next
  pub stops : old.stopped ≡ false → new.stopped ≡ true → (came : BridgeLane → List Item) (p : List Stamped) (rest put : ℕ → List Item)
      → SegmentPast board came p old (λ n. received n ++ (option_to_list (refused n) ++ rest n)) put
      → (n : ℕ) × (lane : BridgeLane) × (end : End) × (slice_get (shape_of new.bus).lanes n ≡ Some lane) × (slice_get after n ≡ Some end) × StopsAt board new.bus.bus came (later ++ p) lane (refused n) (kept end)

-- the segment has nothing to do for now: nothing is in hand, and whatever is presented gets a Retry
pub record HasNothingToDo {End : Type 0} (had got : End → List Item) (board : Board) (s : SegmentView) (ends : List End) : Type 0 where
  pub nothing_in_hand : (n : ℕ) (end : End) → slice_get ends n ≡ Some end → in_hand (had end) (got end) ≡ []
  pub retried : (came : BridgeLane → List Item) (p : List Stamped) (rest put : ℕ → List Item) → SegmentPast board came p s rest put
      → (by : By) (o : OpId) → wants_in board (lanes_known board came p) (events_of p) s.bus.bus by o ≡ true → IsRetry (answer_in board (lanes_known board came p) (events_of p) s.bus.bus by o)

-- so it was before a turn that did nothing, if the segment did not stop; nothing is in hand after it either
abbrev pub IsQuietAtZero : {End : Type 0} → (End → List Item) → (End → List Item) → Board → SegmentView → SegmentView → List End → ℕ → Type 0
IsQuietAtZero had got board old new after count = count ≡ 0 → new.stopped ≡ false → HasNothingToDo had got board old after

-- Steps of a turn.

-- an act is recorded with the stamp and what it sends is sent; or the segment stops, since some end has no room for it
pub record IsRecorded {End : Type 0} (had sent got : End → List Item) (paired : End → End → Type 0) (acted : Acted) (stamp : ℕ) (ends after : List End) (events kept_events : List Stamped) : Type 0 where
  pub event : kept_events ≡ events ++ record { stamp = stamp; event = acted.event } ∷ []
  pub sends : SendsBoth had sent got paired ends acted.over acted.back after

-- the act is not recorded, since some end has no room for what it sends
pub record IsUnrecorded {End : Type 0} (kept : End → ℕ) (acted : Acted) (ends after : List End) (events kept_events : List Stamped) : Type 0 where
  pub same_ends : after ≡ ends
  pub same_events : kept_events ≡ events
  pub full : LacksRoom kept ends acted.over ⊎ LacksRoom kept ends acted.back

-- one or the other, as the segment stopped or not
abbrev pub Records : {End : Type 0} → (End → List Item) → (End → List Item) → (End → List Item) → (End → ℕ) → (End → End → Type 0) → Acted → ℕ → List End → List End → List Stamped → List Stamped → Bool → Type 0
Records had sent got kept paired acted stamp ends after events kept_events false = IsRecorded had sent got paired acted stamp ends after events kept_events
Records had sent got kept paired acted stamp ends after events kept_events true = IsUnrecorded kept acted ends after events kept_events

-- what comes of an initiator, at the ends and among the events
abbrev pub Finishes : {End : Type 0} → (End → List Item) → (End → List Item) → (End → List Item) → (End → ℕ) → (End → End → Type 0) → Served → ℕ → List End → List End → List Stamped → List Stamped → Bool → Type 0
Finishes had sent got kept paired Nothing stamp ends after events kept_events stopped = (after ≡ ends) × (kept_events ≡ events) × (stopped ≡ false)
Finishes had sent got kept paired Retried stamp ends after events kept_events stopped = (after ≡ ends) × (kept_events ≡ events) × (stopped ≡ false)
Finishes had sent got kept paired Back stamp ends after events kept_events stopped = (after ≡ ends) × (kept_events ≡ events) × (stopped ≡ true)
Finishes had sent got kept paired (Did acted) stamp ends after events kept_events stopped = Records had sent got kept paired acted stamp ends after events kept_events stopped

-- the arrival is recorded with its stamp and what goes back is sent; or the segment stops, since there is no room for that
pub record IsKept {End : Type 0} (had sent got : End → List Item) (paired : End → End → Type 0) (lane : BridgeLane) (place later : ℕ) (arrival : Arrival) (ends : List End) (events : List Stamped) (new_stamp : ℕ) (after : List End) (kept_events : List Stamped) : Type 0 where
  pub event : kept_events ≡ events ++ record { stamp = later; event = Arrive lane arrival.mark } ∷ []
  pub stamp : new_stamp ≡ later
  pub sends : SendsAt had sent got paired ends (sent_at place arrival.back) after

-- the arrival is not recorded, since the end has no room for what goes back
pub record IsNotKept {End : Type 0} (kept : End → ℕ) (place : ℕ) (arrival : Arrival) (stamp : ℕ) (ends : List End) (events : List Stamped) (new_stamp : ℕ) (after : List End) (kept_events : List Stamped) : Type 0 where
  pub same_ends : after ≡ ends
  pub same_events : kept_events ≡ events
  pub same_stamp : new_stamp ≡ stamp
  pub full : LacksRoom kept ends (sent_at place arrival.back)

-- one or the other, as the segment stopped or not
abbrev pub Keeps : {End : Type 0} → (End → List Item) → (End → List Item) → (End → List Item) → (End → ℕ) → (End → End → Type 0) → BridgeLane → ℕ → ℕ → Arrival → ℕ → List End → List Stamped → ℕ → List End → List Stamped → Bool → Type 0
Keeps had sent got kept paired lane place later arrival stamp ends events new_stamp after kept_events false = IsKept had sent got paired lane place later arrival ends events new_stamp after kept_events
Keeps had sent got kept paired lane place later arrival stamp ends events new_stamp after kept_events true = IsNotKept kept place arrival stamp ends events new_stamp after kept_events

-- an item that came at a port arrived, and what goes back was sent; or the segment stops
pub record IsArrived {End : Type 0} (had sent got : End → List Item) (paired : End → End → Type 0) (board : Board) (place : ℕ) (item : Item) (old : SegmentView) (ends : List End) (events : List Stamped) (new : SegmentView) (after : List End) (kept_events : List Stamped) : Type 0 where
  pub lane : BridgeLane
  pub there : slice_get (shape_of old.bus).lanes place ≡ Some lane
  pub mark : Mark
  pub back : Option Sent
  pub back_item : Option Item
  pub back_is : back ≡ sent_at place back_item
  pub arrives : BusArrives board place old.bus item mark back_item new.bus
  pub stamped : HasStamp new.stamp back_item
  pub stamp_is : new.stamp ≡ max old.stamp (stamp_of item + 1)
  pub goes_on : new.stopped ≡ false
  pub event : kept_events ≡ events ++ record { stamp = new.stamp; event = Arrive lane mark } ∷ []
  pub sends : SendsAt had sent got paired ends back after

-- why it does not arrive
abbrev pub IsStopped : {End : Type 0} → (End → ℕ) → Board → ℕ → Item → BusView → List End → BusView → Type 0
IsStopped kept board place item old ends new =
    (2 ^ 31 ≤ stamp_of item) ⊎ BusRefuses board place old item
    ⊎ ((mark : Mark) × (back : Item) × BusArrives board place old item mark (Some back) new × LacksRoom kept ends (sent_at place (Some back)))

-- the item did not arrive, and the segment stopped
pub record IsNotArrived {End : Type 0} (kept : End → ℕ) (board : Board) (place : ℕ) (item : Item) (old : SegmentView) (ends : List End) (events : List Stamped) (new : SegmentView) (after : List End) (kept_events : List Stamped) : Type 0 where
  pub same_ends : after ≡ ends
  pub same_events : kept_events ≡ events
  pub same_stamp : new.stamp ≡ old.stamp
  pub stops : new.stopped ≡ true
  pub cause : IsStopped kept board place item old.bus ends new.bus

-- what comes of an item
abbrev pub Takes : {End : Type 0} → (End → List Item) → (End → List Item) → (End → List Item) → (End → ℕ) → (End → End → Type 0) → Board → ℕ → Item → SegmentView → List End → List Stamped → SegmentView → List End → List Stamped → Type 0
Takes had sent got kept paired board place item old ends events new after kept_events =
    IsArrived had sent got paired board place item old ends events new after kept_events ⊎ IsNotArrived kept board place item old ends events new after kept_events
