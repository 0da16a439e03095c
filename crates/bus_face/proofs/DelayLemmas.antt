-- A delayed request is answered by its own slot.
use Rattle.std.proofs.Common.{◌≡◌, ℕ, ◌+◌, Bool, true, false, cond, ◌&&◌, nat_lt, Option, Some, None, refl, sym, ap, ◌∙◌}
use Rattle.std.specs.List.{find}
use Rattle.pci_command.specs.declared.request.Request.{Request}
use Rattle.pci_command.specs.declared.op_id.OpId.{OpId}
use Rattle.pci_command.specs.Command.{is_read}
use Rattle.board_model.specs.Requests.{is_posted}
use Rattle.history_model.specs.declared.item.Cause.TheVariants.{Full, Behind}
use Rattle.lane_items.specs.declared.requests.slot_table.SlotEntry.{SlotEntry}
use Rattle.lane_items.specs.requests.Slots.{IsOwnNumber, HasNoOwn, without as without_slot}
use Rattle.lane_items.specs.declared.completions.done_table.Done.{Done}
use Rattle.lane_items.specs.completions.Completions.{done_at, without as without_done}
use Rattle.bus_face.specs.declared.reply.Reply.{Reply}
use Rattle.bus_face.specs.declared.reply.Reply.TheVariants.{Accepted, Latched, Taken, Retry}
use Rattle.bus_face.specs.State.{FaceState}
use Rattle.bus_face.specs.Replies.{posts_reply, is_behind, is_own_entry, taken_reply, latched_reply, delayed_reply, reply_to, LowestReply, LowestLatched}
use Rattle.bus_face.proofs.OwnLemmas.{own_some, own_none}

taken_not_latched : (face : FaceState) (slot : ℕ) (read : Bool) (found : Option Done) (number : ℕ) → (taken_reply face slot read found).0 ≡ Latched number → ⊥
taken_not_latched face slot read None number is = cc
taken_not_latched face slot read (Some done) number is =
    let one : Reply × FaceState = (Retry Behind, face) in
    let other : Reply × FaceState = (
      Taken slot done.outcome,
      record face {
        slots = record (face.slots) { slots = without_slot slot face.slots.slots };
        dones = record (face.dones) { dones = without_done slot face.dones.dones };
      },
    ) in
    let P : Bool → Type 0 = λ b. (cond b one other).0 ≡ Latched number → ⊥ in
    (elim (read && is_behind done.arrival face.posts.posts) as P [ true ↦ λ e. cc | false ↦ λ e. cc ]) is

posted_not_latched : (face : FaceState) (number : ℕ) → (posts_reply face).0 ≡ Latched number → ⊥
posted_not_latched face number is =
    let one : Reply × FaceState = (Accepted, record face { owed = face.owed + 1 }) in
    let P : Bool → Type 0 = λ b. (cond b one (Retry Full, face)).0 ≡ Latched number → ⊥ in
    (elim (nat_lt face.owed face.posted) as P [ true ↦ λ e. cc | false ↦ λ e. cc ]) is

-- the reply to a delayed request, by its own slot
by_own : (face : FaceState) (number tag : ℕ) (op : OpId) (request : Request) (own : Option SlotEntry) → is_posted request ≡ false → find (is_own_entry tag request) face.slots.slots ≡ own
    → reply_to face number tag op request ≡ delayed_reply face number tag op request own
by_own face number tag op request own delayed found = rw (delayed, found) refl

pub delay_some : (face : FaceState) (tag : ℕ) (op : OpId) (request : Request) (read : Bool) (slot : ℕ) (reply : Reply) (after : FaceState)
    → is_posted request ≡ false → read ≡ is_read request.command → IsOwnNumber tag request face.slots.slots slot
    → (reply ≡ (taken_reply face slot read (done_at slot face.dones.dones)).0) × (after ≡ (taken_reply face slot read (done_at slot face.dones.dones)).1)
    → LowestReply face tag op request reply after
delay_some face tag op request read slot reply after delayed reads own is =
    let found = own_some tag request face.slots.slots slot own in
    let T : ℕ → Bool → Reply × FaceState = λ n r. taken_reply face n r (done_at n face.dones.dones) in
    let same : reply_to face 0 tag op request ≡ T slot read =
    by_own face 0 tag op request (Some found.slot) delayed found.found ∙ (ap (λ n. T n (is_read request.command)) found.number_is ∙ ap (T slot) (sym reads)) in
    record {
      number = 0;
      lowest = λ latched. absurd (taken_not_latched face slot read (done_at slot face.dones.dones) 0 (sym is.0 ∙ latched));
      reply_is = is.0 ∙ ap (λ p. p.0) (sym same);
      after_is = is.1 ∙ ap (λ p. p.1) (sym same);
    }

pub delay_none : (face : FaceState) (tag : ℕ) (op : OpId) (request : Request) (reply : Reply) (after : FaceState)
    → is_posted request ≡ false → HasNoOwn tag request face.slots.slots → LowestLatched face tag op request reply after → LowestReply face tag op request reply after
delay_none face tag op request reply after delayed none latched =
    let same : reply_to face latched.number tag op request ≡ latched_reply face latched.number tag op request =
    by_own face latched.number tag op request None delayed (own_none tag request face.slots.slots none) in
    record { number = latched.number; lowest = latched.lowest; reply_is = latched.reply_is ∙ ap (λ p. p.0) (sym same); after_is = latched.after_is ∙ ap (λ p. p.1) (sym same) }

pub reply_posted : (face : FaceState) (tag : ℕ) (op : OpId) (request : Request) (reply : Reply) (after : FaceState)
    → is_posted request ≡ true → (reply ≡ (posts_reply face).0) × (after ≡ (posts_reply face).1) → LowestReply face tag op request reply after
reply_posted face tag op request reply after posted is =
    let same : reply_to face 0 tag op request ≡ posts_reply face = rw posted refl in
    record {
      number = 0;
      lowest = λ latched. absurd (posted_not_latched face 0 (sym is.0 ∙ latched));
      reply_is = is.0 ∙ ap (λ p. p.0) (sym same);
      after_is = is.1 ∙ ap (λ p. p.1) (sym same);
    }
