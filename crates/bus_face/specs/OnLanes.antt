-- What each call on half a bridge is in the model, wherever the half stands for two lanes of the bridge.
use Rattle.std.specs.Prelude.{◌≡◌, ℕ, Bool, List, [], ◌∷◌, ◌++◌, Option, Some, IsSome, map, option_to_list}
use Rattle.std.specs.List.{find, list_any, AllByRecursion}
use Rattle.pci_command.specs.declared.request.Request.{Request}
use Rattle.pci_command.specs.declared.op_id.OpId.{OpId}
use Rattle.pci_command.specs.declared.op_id.Outcome.{Outcome}
use Rattle.board_model.specs.declared.bridge.Lane.{Lane as BridgeLane}
use Rattle.board_model.specs.declared.bridge.Bridge.{Bridge}
use Rattle.board_model.specs.declared.board.Board.{Board}
use Rattle.board_model.specs.Requests.{request_of}
use Rattle.history_model.specs.declared.event.By.{By}
use Rattle.history_model.specs.declared.event.Mark.{Mark}
use Rattle.history_model.specs.declared.item.Carried.{Carried}
use Rattle.history_model.specs.declared.item.Carried.TheVariants.{Post, Ask, Done, Room, Gone}
use Rattle.history_model.specs.Lanes.{Both, empty_lane, is_of, effect_of, takes_effect, item_ends}
use Rattle.history_model.specs.World.{World, both}
use Rattle.history_model.specs.Answers.{lane_answer, presents}
use Rattle.history_model.specs.Local.{is_lawful_at}
use Rattle.law_lanes.specs.Latched.{IsAt}
use Rattle.law_lanes.specs.Kinds.{RightKind}
use Rattle.lane_items.specs.declared.item.Item.{Item}
use Rattle.bus_face.specs.declared.reply.Reply.{Reply}
use Rattle.bus_face.specs.declared.reply.Reply.TheVariants.{Accepted, Latched, Taken, Retry}
use Rattle.bus_face.specs.declared.offer.Offer.{Offer}
use Rattle.bus_face.specs.State.{FaceState}
use Rattle.bus_face.specs.Arrivals.{carried}
use Rattle.bus_face.specs.Replies.{as_answer, replied}
use Rattle.bus_face.specs.Offers.{offered_item, is_offer_of}
use Rattle.bus_face.specs.Stands.{IsTag, HasDepths, Stands}

-- before the first event: the half stands for two lanes that nothing entered
pub record StandsForEmpty (face : FaceState) : Type 0 where
  pub stands : (board : Board) (bridge : Bridge) (bus : ℕ) (tags : By → OpId → ℕ) → HasDepths bridge face
      → Stands board bridge bus tags face (record { here = empty_lane; back = empty_lane })

-- an initiator that is there, and that its tag tells from all others, presents the operation with this request
pub record IsPresented (board : Board) (bus : ℕ) (tags : By → OpId → ℕ) (by : By) (o : OpId) (tag : ℕ) (request : Request) : Type 0 where
  pub request_is : request_of board o bus ≡ Some request
  pub tag_is : tags by o ≡ tag
  pub tells : IsTag board bus tags by o tag
  pub there : IsAt board bus by o

-- what a reply sends over the bridge
abbrev pub sent_by : OpId → Reply → List Carried
sent_by o Accepted = Post o ∷ []
sent_by o (Latched slot) = Ask o slot ∷ []
sent_by o (Taken slot outcome) = []
sent_by o (Retry cause) = []

-- a reply is the answer of the lane that begins at the half, which then stands for what that makes of the bridge's lanes
pub record IsReplyOfLane (board : Board) (bridge : Bridge) (bus : ℕ) (tags : By → OpId → ℕ) (world : World) (lane : BridgeLane) (by : By) (o : OpId) (request : Request) (reply : Reply) (after : FaceState) : Type 0 where
  pub answer : as_answer lane reply ≡ lane_answer board world bus by o request lane (Some bridge)
  pub stands : Stands board bridge bus tags after (replied board bus by o reply (both world lane))
  pub sent : (replied board bus by o reply (both world lane)).here.flight ≡ (world lane).flight ++ sent_by o reply

-- the same of any world in which the half stands for the lanes
pub record RepliesOfLanes (face : FaceState) (tag : ℕ) (o : OpId) (request : Request) (reply : Reply) (after : FaceState) : Type 0 where
  pub replies : (board : Board) (bridge : Bridge) (bus : ℕ) (tags : By → OpId → ℕ) (world : World) (lane : BridgeLane) (by : By)
      → IsPresented board bus tags by o tag request → Stands board bridge bus tags face (both world lane)
      → IsReplyOfLane board bridge bus tags world lane by o request reply after

-- an item is taken exactly where the bridge can receive it on the lane that ends at the half
pub record IsLawfulOnLanes (face : FaceState) (item : Carried) (taken : Bool) : Type 0 where
  pub lawful : (board : Board) (bridge : Bridge) (bus : ℕ) (tags : By → OpId → ℕ) (x : Both) → Stands board bridge bus tags face x
      → taken ≡ is_lawful_at x.back x.here item (Some bridge)

-- the request of a delayed request is that of its operation as driven on the bus
abbrev pub IsItsRequest : Board → ℕ → Carried → Option Request → Type 0
IsItsRequest board bus (Post op) request = Unit {0}
IsItsRequest board bus (Ask op slot) request = (request_of board op bus ≡ request) × IsSome request
IsItsRequest board bus (Done op slot outcome) request = Unit {0}
IsItsRequest board bus Room request = Unit {0}
IsItsRequest board bus (Gone slot) request = Unit {0}

-- a lane, and the lane back, the other way round
abbrev pub turned : Both → Both
turned x = record { here = x.back; back = x.here }

-- the two lanes after the item arrived on the lane that ends at the half
abbrev pub after_arrival : Mark → Carried → Both → Both
after_arrival mark item x = turned (takes_effect (effect_of mark item) item (turned x))

-- an arrival is that of the model, and sends back what goes back there
pub record ArrivesOnLanes (face : FaceState) (item : Carried) (request : Option Request) (mark : Mark) (after : FaceState) (back : Option Item) : Type 0 where
  pub stands : (board : Board) (bridge : Bridge) (bus : ℕ) (tags : By → OpId → ℕ) (x : Both) → IsItsRequest board bus item request → RightKind board item
      → Stands board bridge bus tags face x → Stands board bridge bus tags after (after_arrival mark item x)
  pub sent : (x : Both) → (after_arrival mark item x).here.flight ≡ x.here.flight ++ map carried (option_to_list back)

-- what is offered is what the lane presents: of each operation exactly where it is presented, and as its oldest
-- item that stands
pub record OffersOfLanes (face : FaceState) (offers : List Offer) : Type 0 where
  pub presented : (board : Board) (bridge : Bridge) (bus : ℕ) (tags : By → OpId → ℕ) (x : Both) (o : OpId) → Stands board bridge bus tags face x
      → presents board bus o x.back.standing ≡ list_any (is_offer_of o) offers
  pub oldest : (board : Board) (bridge : Bridge) (bus : ℕ) (tags : By → OpId → ℕ) (x : Both) → Stands board bridge bus tags face x
      → AllByRecursion (λ offer. find (is_of offer.op) x.back.standing ≡ Some (offered_item offer)) offers

-- the two lanes after an item that was offered ended
abbrev pub after_end : OpId → Outcome → Both → Both
after_end o outcome x = turned (item_ends o outcome (turned x))

-- an item that was offered ends as in the model, and its answer is what goes back there
pub record EndsOnLanes (face : FaceState) (offer : Offer) (outcome : Outcome) (after : FaceState) (back : Item) : Type 0 where
  pub stands : (board : Board) (bridge : Bridge) (bus : ℕ) (tags : By → OpId → ℕ) (x : Both) → Stands board bridge bus tags face x
      → Stands board bridge bus tags after (after_end offer.op outcome x)
  pub sent : (board : Board) (bridge : Bridge) (bus : ℕ) (tags : By → OpId → ℕ) (x : Both) → Stands board bridge bus tags face x
      → (after_end offer.op outcome x).here.flight ≡ x.here.flight ++ carried back ∷ []
