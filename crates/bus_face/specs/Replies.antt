-- What half a bridge answers, by its tables.
use Rattle.std.specs.Prelude.{◌≡◌, ℕ, ◌+◌, Bool, false, List, [], ◌∷◌, ◌++◌, length, Option, Some, None, ◌&&◌, ◌==◌, nat_lt, if◌then◌else◌}
use Rattle.std.specs.List.{find}
use Rattle.pci_command.specs.declared.request.Request.{Request}
use Rattle.pci_command.specs.declared.op_id.OpId.{OpId}
use Rattle.pci_command.specs.Command.{is_read}
use Rattle.pci_command.specs.Same.{same_request}
use Rattle.board_model.specs.declared.bridge.Lane.{Lane as BridgeLane}
use Rattle.board_model.specs.declared.bridge.Place.TheVariants.{Lane}
use Rattle.board_model.specs.declared.board.Board.{Board}
use Rattle.board_model.specs.Requests.{is_posted}
use Rattle.history_model.specs.declared.event.By.{By}
use Rattle.history_model.specs.declared.event.Step.TheVariants.{Accept, Latch, Take}
use Rattle.history_model.specs.declared.item.Answer.{Answer}
use Rattle.history_model.specs.declared.item.Answer.TheVariants.{Gives, Retry as Retries}
use Rattle.history_model.specs.declared.item.Cause.TheVariants.{Full, NoSlot, Waiting, Behind}
use Rattle.history_model.specs.Lanes.{Both}
use Rattle.history_model.specs.World.{enters}
use Rattle.lane_items.specs.declared.posts.posted_table.Post.{Post}
use Rattle.lane_items.specs.declared.requests.slot_table.SlotEntry.{SlotEntry}
use Rattle.lane_items.specs.requests.Slots.{IsLowestFree, without as without_slot}
use Rattle.lane_items.specs.declared.completions.done_table.Done.{Done}
use Rattle.lane_items.specs.completions.Completions.{done_at, without as without_done}
use Rattle.bus_face.specs.declared.reply.Reply.{Reply}
use Rattle.bus_face.specs.declared.reply.Reply.TheVariants.{Accepted, Latched, Taken, Retry}
use Rattle.bus_face.specs.State.{FaceState}

-- a posted write
abbrev pub posts_reply : FaceState → Reply × FaceState
posts_reply face = if nat_lt face.owed face.posted then (Accepted, record face { owed = face.owed + 1 }) else (Retry Full, face)

-- a posted write stands that came before
abbrev pub is_behind : ℕ → List Post → Bool
is_behind arrival [] = false
is_behind arrival (post ∷ later) = nat_lt post.arrival arrival

-- the held slot is that of the initiator with this tag and of an equal request
abbrev pub is_own_entry : ℕ → Request → SlotEntry → Bool
is_own_entry tag request slot = slot.tag == tag && same_request slot.request request

-- the completion of the own slot, if it came
abbrev pub taken_reply : FaceState → ℕ → Bool → Option Done → Reply × FaceState
taken_reply face slot read None = (Retry Waiting, face)
taken_reply face slot read (Some done) =
    if read && is_behind done.arrival face.posts.posts
    then (Retry Behind, face)
    else (
      Taken slot done.outcome,
      record face {
        slots = record (face.slots) { slots = without_slot slot face.slots.slots };
        dones = record (face.dones) { dones = without_done slot face.dones.dones };
      },
    )

-- a new slot, of this number, while there is one
abbrev pub latched_reply : FaceState → ℕ → ℕ → OpId → Request → Reply × FaceState
latched_reply face number tag op request =
    if nat_lt (length face.slots.slots) face.slots.depth
    then (
      Latched number,
      record face {
        slots = record (face.slots) { slots = face.slots.slots ++ record { number = number; tag = tag; op = op; request = request } ∷ [] };
      },
    )
    else (Retry NoSlot, face)

-- a delayed request: the completion of its own slot if it has one, else a new slot
abbrev pub delayed_reply : FaceState → ℕ → ℕ → OpId → Request → Option SlotEntry → Reply × FaceState
delayed_reply face number tag op request None = latched_reply face number tag op request
delayed_reply face number tag op request (Some slot) = taken_reply face slot.number (is_read request.command) (done_at slot.number face.dones.dones)

-- the reply, and what the half bridge keeps then; `number` is the lowest free slot
abbrev pub reply_to : FaceState → ℕ → ℕ → OpId → Request → Reply × FaceState
reply_to face number tag op request =
    if is_posted request then posts_reply face else delayed_reply face number tag op request (find (is_own_entry tag request) face.slots.slots)

-- the reply, and what is kept then, where a latched slot is the lowest free one
pub record LowestLatched (face : FaceState) (tag : ℕ) (op : OpId) (request : Request) (reply : Reply) (after : FaceState) : Type 0 where
  pub number : ℕ
  pub lowest : reply ≡ Latched number → IsLowestFree number face.slots.slots
  pub reply_is : reply ≡ (latched_reply face number tag op request).0
  pub after_is : after ≡ (latched_reply face number tag op request).1

-- the same of any request
pub record LowestReply (face : FaceState) (tag : ℕ) (op : OpId) (request : Request) (reply : Reply) (after : FaceState) : Type 0 where
  pub number : ℕ
  pub lowest : reply ≡ Latched number → IsLowestFree number face.slots.slots
  pub reply_is : reply ≡ (reply_to face number tag op request).0
  pub after_is : after ≡ (reply_to face number tag op request).1

-- a reply is this answer of the lane that begins at the face
abbrev pub as_answer : BridgeLane → Reply → Answer
as_answer lane Accepted = Gives Accept (Lane lane)
as_answer lane (Latched slot) = Gives Latch (Lane lane)
as_answer lane (Taken slot outcome) = Gives (Take outcome) (Lane lane)
as_answer lane (Retry cause) = Retries cause

-- what it does to the two lanes of the bridge; `here` begins at the face
abbrev pub replied : Board → ℕ → By → OpId → Reply → Both → Both
replied board bus by op Accepted x = enters board bus by op Accept x
replied board bus by op (Latched slot) x = enters board bus by op Latch x
replied board bus by op (Taken slot outcome) x = enters board bus by op (Take outcome) x
replied board bus by op (Retry cause) x = x
