-- The own slot, as the slot table finds it.
use Rattle.std.proofs.Common.{◌≡◌, ℕ, Bool, true, false, cond, eqb, List, [], ◌∷◌, Some, None, refl, inl, inr}
use Rattle.std.specs.List.{find}
use Rattle.std.proofs.lemmas.Bool.{eqb-true, eq-eqb, and_parts}
use Rattle.pci_command.specs.declared.request.Request.{Request}
use Rattle.pci_command.specs.Same.{same_request}
use Rattle.lane_items.specs.declared.requests.slot_table.SlotEntry.{SlotEntry}
use Rattle.lane_items.specs.requests.Slots.{IsOwn, IsOwnNumber, HasNoOwn}
use Rattle.bus_face.specs.Replies.{is_own_entry}
use Rattle.machine_steps.proofs.SameLemmas.{request_decides}

own_true : (tag : ℕ) (request : Request) (slot : SlotEntry) → is_own_entry tag request slot ≡ true → IsOwn tag request slot
own_true tag request slot own =
    let parts = and_parts (eqb slot.tag tag) (same_request slot.request request) own in
    (eqb-true slot.tag tag parts.0, (request_decides slot.request request).0 parts.1)

true_own : (tag : ℕ) (request : Request) (slot : SlotEntry) → IsOwn tag request slot → is_own_entry tag request slot ≡ true
true_own tag request slot own =
    let first : eqb slot.tag tag ≡ true = eq-eqb slot.tag tag own.0 in
    let second : same_request slot.request request ≡ true = (request_decides slot.request request).1 own.1 in
    rw (first, second) refl

pub own_none : (tag : ℕ) (request : Request) (slots : List SlotEntry) → HasNoOwn tag request slots → find (is_own_entry tag request) slots ≡ None
own_none tag request [] none = refl
own_none tag request (slot ∷ later) none =
    let P : Bool → Type 0 = λ b. is_own_entry tag request slot ≡ b → cond b (Some slot) (find (is_own_entry tag request) later) ≡ None in
    (elim (is_own_entry tag request slot) as P [ true ↦ λ own. absurd (none.0 (own_true tag request slot own)) | false ↦ λ _. own_none tag request later none.1 ]) refl

pub record OwnFound (tag : ℕ) (request : Request) (slots : List SlotEntry) (number : ℕ) : Type 0 where
  pub slot : SlotEntry
  pub found : find (is_own_entry tag request) slots ≡ Some slot
  pub number_is : slot.number ≡ number

pub own_some : (tag : ℕ) (request : Request) (slots : List SlotEntry) (number : ℕ) → IsOwnNumber tag request slots number → OwnFound tag request slots number
own_some tag request [] number own = absurd own
own_some tag request (slot ∷ later) number own =
    elim own [
      | inl here ↦
          let is : is_own_entry tag request slot ≡ true = true_own tag request slot here.0 in
          record { slot = slot; found = rw is refl; number_is = here.1 }
      | inr there ↦
          let rest = own_some tag request later number there.1 in
          let P : Bool → Type 0 = λ b. is_own_entry tag request slot ≡ b → OwnFound tag request (slot ∷ later) number in
          (elim (is_own_entry tag request slot) as P [
            | true ↦ λ is. absurd (there.0 (own_true tag request slot is))
            | false ↦ λ is. record { slot = rest.slot; found = rw is rest.found; number_is = rest.number_is }
          ]) refl
    ]
