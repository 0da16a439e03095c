-- What an arrival does to half a bridge.
use Rattle.std.specs.Prelude.{ℕ, ◌+◌, ◌-◌, Bool, false, not, [], ◌∷◌, ◌++◌, length, Option, Some, None, is_some, ◌&&◌, ◌==◌, nat_lt, IsSome}
use Rattle.std.specs.List.{list_any}
use Rattle.pci_command.specs.declared.request.Request.{Request}
use Rattle.pci_command.specs.declared.op_id.OpId.{OpId}
use Rattle.pci_command.specs.declared.op_id.Outcome.{Outcome}
use Rattle.pci_command.specs.Same.{same_op}
use Rattle.lane_items.specs.declared.item.Item.{Item}
use Rattle.lane_items.specs.declared.item.Item.TheVariants.{Post as PostItem, Ask as AskItem, Done as DoneItem, Room as RoomItem, Gone as GoneItem}
use Rattle.history_model.specs.declared.event.Mark.{Mark}
use Rattle.history_model.specs.declared.event.Mark.TheVariants.{Plain, Discard, Drop}
use Rattle.history_model.specs.declared.item.Carried.{Carried}
use Rattle.history_model.specs.declared.item.Carried.TheVariants.{Post, Ask, Done, Room, Gone}
use Rattle.lane_items.specs.declared.requests.ask_table.Ask.{Ask as AskEntry}
use Rattle.lane_items.specs.declared.requests.slot_table.SlotEntry.{SlotEntry}
use Rattle.lane_items.specs.requests.Slots.{slot_at, without as without_slot}
use Rattle.lane_items.specs.completions.Completions.{done_at}
use Rattle.bus_face.specs.State.{FaceState}

-- an item without its stamp
abbrev pub carried : Item → Carried
carried (PostItem op stamp) = Post op
carried (AskItem op slot stamp) = Ask op slot
carried (DoneItem op slot outcome stamp) = Done op slot outcome
carried (RoomItem stamp) = Room
carried (GoneItem slot stamp) = Gone slot

-- the slot is held, and for this operation
abbrev pub is_for : OpId → Option SlotEntry → Bool
is_for op None = false
is_for op (Some slot) = same_op slot.op op

-- it is the delayed request of this slot
abbrev pub has_slot : ℕ → AskEntry → Bool
has_slot slot ask = ask.slot == slot

-- an item that a face takes: its tables have room for it, and what it answers is asked here
abbrev pub is_taken : FaceState → Carried → Bool
is_taken face (Post op) = nat_lt (length face.posts.posts) face.posts.depth
is_taken face (Ask op slot) = nat_lt slot face.asks.depth && nat_lt (length face.asks.asks) face.asks.depth && not (list_any (has_slot slot) face.asks.asks)
is_taken face (Done op slot outcome) = is_for op (slot_at slot face.slots.slots) && not (is_some (done_at slot face.dones.dones))
is_taken face Room = nat_lt 0 face.owed
is_taken face (Gone slot) = is_some (slot_at slot face.slots.slots) && not (is_some (done_at slot face.dones.dones))

-- the face with one arrival more
abbrev pub counted : FaceState → FaceState
counted face = record face { arrivals = face.arrivals + 1 }

-- the face without the held slot of this number
abbrev pub freed : FaceState → ℕ → FaceState
freed face slot = record face { slots = record (face.slots) { slots = without_slot slot face.slots.slots } }

-- the face with the delayed request in its table, numbered by its arrival
abbrev pub asks_arrived : FaceState → OpId → ℕ → Option Request → FaceState
asks_arrived face op slot None = face
asks_arrived face op slot (Some request) =
    record face { asks = record (face.asks) { asks = face.asks.asks ++ record { op = op; slot = slot; request = request; arrival = face.arrivals } ∷ [] } }

-- the same by the mark: a request that is dropped does not stand
abbrev pub ask_marked : FaceState → OpId → ℕ → Option Request → Mark → FaceState
ask_marked face op slot request Plain = asks_arrived face op slot request
ask_marked face op slot request Discard = asks_arrived face op slot request
ask_marked face op slot request Drop = face

-- the face with the completion in its table, numbered by its arrival
abbrev pub dones_arrived : FaceState → OpId → ℕ → Outcome → FaceState
dones_arrived face op slot outcome =
    record face { dones = record (face.dones) { dones = face.dones.dones ++ record { slot = slot; op = op; outcome = outcome; arrival = face.arrivals } ∷ [] } }

-- the same by the mark: a completion that is discarded only frees its slot
abbrev pub done_marked : FaceState → OpId → ℕ → Outcome → Mark → FaceState
done_marked face op slot outcome Plain = dones_arrived face op slot outcome
done_marked face op slot outcome Discard = freed face slot
done_marked face op slot outcome Drop = dones_arrived face op slot outcome

-- what is kept after the arrival
abbrev pub arrived : FaceState → Carried → Option Request → Mark → FaceState
arrived face (Post op) request mark = record face { posts = record (face.posts) { posts = face.posts.posts ++ record { op = op; arrival = face.arrivals } ∷ [] } }
arrived face (Ask op slot) request mark = ask_marked face op slot request mark
arrived face (Done op slot outcome) request mark = done_marked face op slot outcome mark
arrived face Room request mark = record face { owed = face.owed - 1 }
arrived face (Gone slot) request mark = freed face slot

-- what goes back at once: the word that a delayed request was dropped
abbrev pub word_of : ℕ → ℕ → Mark → Option Item
word_of slot stamp Plain = None
word_of slot stamp Discard = None
word_of slot stamp Drop = Some (GoneItem slot stamp)

-- what goes back for an item with this mark; for any other item than a delayed request nothing does
abbrev pub sent_back : Carried → Mark → ℕ → Option Item
sent_back (Post op) mark stamp = None
sent_back (Ask op slot) mark stamp = word_of slot stamp mark
sent_back (Done op slot outcome) mark stamp = None
sent_back Room mark stamp = None
sent_back (Gone slot) mark stamp = None

-- a delayed request comes with its request
abbrev pub HasRequest : Carried → Option Request → Type 0
HasRequest (Post op) request = Unit {0}
HasRequest (Ask op slot) request = IsSome request
HasRequest (Done op slot outcome) request = Unit {0}
HasRequest Room request = Unit {0}
HasRequest (Gone slot) request = Unit {0}
