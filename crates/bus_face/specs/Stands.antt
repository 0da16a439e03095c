-- Half a bridge stands for what the model says of the two lanes: one clause for each table.
use Rattle.std.specs.Prelude.{◌≡◌, ℕ, ◌≤◌, ◌+◌, List, [], ◌∷◌, ◌++◌, map, Some, ◌==◌}
use Rattle.std.specs.List.{AllByRecursion}
use Rattle.pci_command.specs.declared.op_id.OpId.{OpId}
use Rattle.board_model.specs.declared.bridge.Bridge.{Bridge}
use Rattle.board_model.specs.declared.board.Board.{Board}
use Rattle.board_model.specs.Requests.{request_of}
use Rattle.history_model.specs.declared.event.By.{By}
use Rattle.history_model.specs.declared.item.Carried.{Carried}
use Rattle.history_model.specs.declared.item.Carried.TheVariants.{Post, Ask, Done, Room, Gone}
use Rattle.history_model.specs.declared.item.Slot.{Slot as HeldSlot}
use Rattle.history_model.specs.Lanes.{Both}
use Rattle.history_model.specs.World.{same_initiator}
use Rattle.law_lanes.specs.Latched.{IsAt}
use Rattle.law_lanes.specs.Kinds.{RightKind}
use Rattle.law_lanes.specs.Standing.{CanStand}
use Rattle.lane_items.specs.declared.posts.posted_table.Post.{Post as PostEntry}
use Rattle.lane_items.specs.declared.requests.ask_table.Ask.{Ask as AskEntry}
use Rattle.lane_items.specs.declared.requests.slot_table.SlotEntry.{SlotEntry}
use Rattle.lane_items.specs.declared.completions.done_table.Done.{Done as DoneEntry}
use Rattle.bus_face.specs.State.{FaceState}

-- an item that stands, with the number of its arrival
pub record Arrived : Type 0 where
  pub item : Carried
  pub arrival : ℕ

-- what of it is in each table
abbrev pub post_entry : Carried → ℕ → List PostEntry
post_entry (Post op) arrival = record { op = op; arrival = arrival } ∷ []
post_entry (Ask op slot) arrival = []
post_entry (Done op slot outcome) arrival = []
post_entry Room arrival = []
post_entry (Gone slot) arrival = []

-- the same of the table of completions
abbrev pub done_entry : Carried → ℕ → List DoneEntry
done_entry (Post op) arrival = []
done_entry (Ask op slot) arrival = []
done_entry (Done op slot outcome) arrival = record { slot = slot; op = op; outcome = outcome; arrival = arrival } ∷ []
done_entry Room arrival = []
done_entry (Gone slot) arrival = []

-- of an entry of a delayed request all but the request itself
pub record AskKey : Type 0 where
  pub op : OpId
  pub slot : ℕ
  pub arrival : ℕ

-- the entry without its request
abbrev pub ask_key : AskEntry → AskKey
ask_key ask = record { op = ask.op; slot = ask.slot; arrival = ask.arrival }

-- the same of the table of delayed requests
abbrev pub ask_entry : Carried → ℕ → List AskKey
ask_entry (Post op) arrival = []
ask_entry (Ask op slot) arrival = record { op = op; slot = slot; arrival = arrival } ∷ []
ask_entry (Done op slot outcome) arrival = []
ask_entry Room arrival = []
ask_entry (Gone slot) arrival = []

-- the posted writes among the items that stand, by their arrivals
abbrev pub post_entries : List Arrived → List PostEntry
post_entries [] = []
post_entries (one ∷ later) = post_entry one.item one.arrival ++ post_entries later

-- the same of delayed requests
abbrev pub ask_entries : List Arrived → List AskKey
ask_entries [] = []
ask_entries (one ∷ later) = ask_entry one.item one.arrival ++ ask_entries later

-- the same of completions
abbrev pub done_entries : List Arrived → List DoneEntry
done_entries [] = []
done_entries (one ∷ later) = done_entry one.item one.arrival ++ done_entries later

-- the numbers of arrivals rise, from a least one on and below a last one
abbrev pub Rising : ℕ → ℕ → List Arrived → Type 0
Rising least last [] = least ≤ last
Rising least last (one ∷ later) = (least ≤ one.arrival) × Rising (one.arrival + 1) last later

-- a held slot, and its entry: the initiator is known by its tag, the request as driven on the bus
pub record IsEntry (board : Board) (bus : ℕ) (tags : By → OpId → ℕ) (held : HeldSlot) (entry : SlotEntry) : Type 0 where
  pub number : held.number ≡ entry.number
  pub op : held.op ≡ entry.op
  pub tag : tags held.by held.op ≡ entry.tag
  pub request : request_of board held.op bus ≡ Some entry.request
  pub initiator : IsAt board bus held.by held.op

-- held slots and their entries, one for one
abbrev pub AreEntries : Board → ℕ → (By → OpId → ℕ) → List HeldSlot → List SlotEntry → Type 0
AreEntries board bus tags [] [] = Unit {0}
AreEntries board bus tags [] (entry ∷ entries) = ⊥
AreEntries board bus tags (held ∷ more) [] = ⊥
AreEntries board bus tags (held ∷ more) (entry ∷ entries) = IsEntry board bus tags held entry × AreEntries board bus tags more entries

-- the request of a delayed request that stands, as driven on the bus
abbrev pub HasItsRequest : Board → ℕ → AskEntry → Type 0
HasItsRequest board bus ask = request_of board ask.op bus ≡ Some ask.request

-- what can stand, and carries an operation of its kind: a posted item a write in memory, the others any other
abbrev pub CanStandThere : Board → Carried → Type 0
CanStandThere board item = CanStand item × RightKind board item

-- the depths of the tables are those of the bridge
pub record HasDepths (bridge : Bridge) (face : FaceState) : Type 0 where
  pub posted : face.posted ≡ bridge.posted
  pub posts : face.posts.depth ≡ bridge.posted
  pub asks : face.asks.depth ≡ bridge.delayed
  pub slots : face.slots.depth ≡ bridge.delayed

-- the half stands for these two lanes: `here` begins on the bus, `back` ends there
pub record Stands (board : Board) (bridge : Bridge) (bus : ℕ) (tags : By → OpId → ℕ) (face : FaceState) (x : Both) : Type 0 where
  pub depths : HasDepths bridge face
  pub kinds : AllByRecursion (CanStandThere board) x.back.standing
  pub line : List Arrived
  pub items : x.back.standing ≡ map (λ (one : Arrived). one.item) line
  pub rising : Rising 0 face.arrivals line
  pub posts : post_entries line ≡ face.posts.posts
  pub asks : ask_entries line ≡ map ask_key face.asks.asks
  pub requests : AllByRecursion (HasItsRequest board bus) face.asks.asks
  pub dones : done_entries line ≡ face.dones.dones
  pub slots : AreEntries board bus tags x.here.held face.slots.slots
  pub owed : x.here.owed ≡ face.owed

-- a tag tells an initiator from all others on the bus
abbrev pub IsTag : Board → ℕ → (By → OpId → ℕ) → By → OpId → ℕ → Type 0
IsTag board bus tags by o tag = (other : By) (p : OpId) → IsAt board bus other p → same_initiator other p by o ≡ (tags other p == tag)
