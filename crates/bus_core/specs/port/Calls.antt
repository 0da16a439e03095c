-- What each call on a port is in the model, wherever the port stands for the two lanes of its bridge.
use Rattle.std.specs.Prelude.{◌≡◌, ◌≢◌, ℕ, Bool, List, [], ◌∷◌, ◌++◌, Option, Some, map, option_to_list}
use Rattle.std.specs.List.{list_any}
use Rattle.pci_command.specs.declared.request.Request.{Request}
use Rattle.pci_command.specs.declared.op_id.OpId.{OpId}
use Rattle.pci_command.specs.declared.op_id.Outcome.{Outcome}
use Rattle.board_model.specs.declared.bridge.Lane.{Lane as BridgeLane}
use Rattle.board_model.specs.declared.board.Board.{Board}
use Rattle.board_model.specs.Ways.{lane_back}
use Rattle.history_model.specs.declared.event.By.{By}
use Rattle.history_model.specs.declared.event.By.TheVariants.{Lane as ByLane}
use Rattle.history_model.specs.declared.event.Event.{Event}
use Rattle.history_model.specs.declared.event.Mark.{Mark}
use Rattle.history_model.specs.declared.item.Answer.{Answer}
use Rattle.history_model.specs.declared.item.Answer.TheVariants.{Gives, Retry}
use Rattle.history_model.specs.declared.item.Carried.{Carried}
use Rattle.history_model.specs.declared.item.Cause.{Cause}
use Rattle.history_model.specs.Lanes.{Both, arrives, item_ends}
use Rattle.history_model.specs.World.{World, moved, at_place}
use Rattle.history_model.specs.Answers.{bridge_to, lane_answer, wants_in}
use Rattle.history_model.specs.Runs.{next_mark_in}
use Rattle.history_model.specs.Local.{is_lawful_on, coming}
use Rattle.law_lanes.specs.Kinds.{RightKind}
use Rattle.lane_items.specs.declared.item.Item.{Item}
use Rattle.bus_face.specs.declared.reply.Reply.{Reply}
use Rattle.bus_face.specs.declared.reply.Reply.TheVariants.{Retry as Retried}
use Rattle.bus_face.specs.declared.offer.Offer.{Offer}
use Rattle.bus_face.specs.Arrivals.{carried}
use Rattle.bus_face.specs.Replies.{as_answer}
use Rattle.bus_face.specs.Offers.{is_offer_of}
use Rattle.bus_face.specs.OnLanes.{IsPresented, sent_by, IsItsRequest}
use Rattle.bus_core.specs.port.Port.{PortView, PortStands}

-- before the first event it stands for lanes on which nothing is but what comes to the bus
pub record PortStandsAtFirst (board : Board) (bus : ℕ) (port : PortView) : Type 0 where
  pub stands : (tags : By → OpId → ℕ) (came : BridgeLane → List Carried) → PortStands board bus tags port (coming came)

-- an item is taken exactly where a lawful peer may have sent it
pub record PortTests (port : PortView) (item : Carried) (taken : Bool) : Type 0 where
  pub lawful : (board : Board) (bus : ℕ) (tags : By → OpId → ℕ) (world : World) → PortStands board bus tags port world
      → taken ≡ is_lawful_on board world port.lane item

-- the item is the next on the lane, with this mark: the port stands for the lanes after it arrived, `rest` is still in
-- flight, and what goes back there at once is sent
pub record Arrives (board : Board) (bus : ℕ) (tags : By → OpId → ℕ) (world : World) (lane : BridgeLane) (rest : List Carried) (mark : Mark) (port : PortView) (back : Option Item) : Type 0 where
  pub marked : next_mark_in board world lane ≡ Some mark
  pub stands : PortStands board bus tags port (moved (arrives mark) lane world)
  pub left : (moved (arrives mark) lane world lane).flight ≡ rest
  pub sent : (moved (arrives mark) lane world (lane_back lane)).flight ≡ (world (lane_back lane)).flight ++ map carried (option_to_list back)

-- so it is of an item of its kind that comes with its request
pub record PortArrives (board : Board) (old : PortView) (item : Carried) (request : Option Request) (mark : Mark) (new : PortView) (back : Option Item) : Type 0 where
  pub arrives : (bus : ℕ) (tags : By → OpId → ℕ) (world : World) (rest : List Carried) → IsItsRequest board bus item request → RightKind board item
      → PortStands board bus tags old world → (world old.lane).flight ≡ item ∷ rest → Arrives board bus tags world old.lane rest mark new back

-- the lanes after an answer: a Retry leaves them as they were
abbrev pub after_answer : Board → ℕ → By → OpId → Answer → World → World
after_answer board bus by o (Gives step place) world = at_place board bus by o step place world
after_answer board bus by o (Retry cause) world = world

-- the reply is the answer of the lane that begins at the port, which stands for the lanes after it; nothing else
-- than this is sent
pub record Replies (board : Board) (bus : ℕ) (tags : By → OpId → ℕ) (world : World) (by : By) (o : OpId) (request : Request) (lane : BridgeLane) (reply : Reply) (port : PortView) : Type 0 where
  pub answer : as_answer (lane_back lane) reply ≡ lane_answer board world bus by o request (lane_back lane) (bridge_to board lane.bus)
  pub stands : PortStands board bus tags port (after_answer board bus by o (as_answer (lane_back lane) reply) world)
  pub left : (after_answer board bus by o (as_answer (lane_back lane) reply) world lane).flight ≡ (world lane).flight
  pub sent : (after_answer board bus by o (as_answer (lane_back lane) reply) world (lane_back lane)).flight ≡ (world (lane_back lane)).flight ++ sent_by o reply

-- so it is of an operation that an initiator with this tag presents
pub record PortReplies (old : PortView) (tag : ℕ) (o : OpId) (request : Request) (reply : Reply) (new : PortView) : Type 0 where
  pub replies : (board : Board) (bus : ℕ) (tags : By → OpId → ℕ) (world : World) (by : By) → IsPresented board bus tags by o tag request
      → PortStands board bus tags old world → Replies board bus tags world by o request old.lane reply new

-- a Retry leaves the port as it was
pub record PortStaysAtRetry (old : PortView) (reply : Reply) (new : PortView) : Type 0 where
  pub stays : (cause : Cause) → reply ≡ Retried cause → new ≡ old

-- what is offered is what the lane presents
pub record PortOffers (port : PortView) (offers : List Offer) : Type 0 where
  pub wanted : (board : Board) (bus : ℕ) (tags : By → OpId → ℕ) (world : World) (p : List Event) (o : OpId) → PortStands board bus tags port world
      → wants_in board world p bus (ByLane port.lane) o ≡ list_any (is_offer_of o) offers

-- the port stands for the lanes after the item ended, and its answer is sent
pub record Ends (board : Board) (bus : ℕ) (tags : By → OpId → ℕ) (world : World) (lane : BridgeLane) (o : OpId) (outcome : Outcome) (port : PortView) (back : Item) : Type 0 where
  pub stands : PortStands board bus tags port (moved (item_ends o outcome) lane world)
  pub left : (moved (item_ends o outcome) lane world lane).flight ≡ (world lane).flight
  pub sent : (moved (item_ends o outcome) lane world (lane_back lane)).flight ≡ (world (lane_back lane)).flight ++ carried back ∷ []

-- so it is of an item that is offered
pub record PortEnds (old : PortView) (offer : Offer) (outcome : Outcome) (new : PortView) (back : Item) : Type 0 where
  pub ends : (board : Board) (bus : ℕ) (tags : By → OpId → ℕ) (world : World) → PortStands board bus tags old world
      → Ends board bus tags world old.lane offer.op outcome new back

-- a move of another bridge leaves a port as it was
abbrev pub OtherBridgesLeave : Board → ℕ → (By → OpId → ℕ) → PortView → World → Type 0
OtherBridgesLeave board bus tags port world =
    (move : Both → Both) (lane : BridgeLane) → port.lane.bus ≢ lane.bus → PortStands board bus tags port world → PortStands board bus tags port (moved move lane world)
