-- The slots of a bridge in which it keeps the requests that it retried and passes on, until their
-- initiator took the completion: PCI Local Bus Specification 2.2, sections 3.3.3.3.1 to 3.3.3.3.5 (from memory).
use Rattle.std.specs.Prelude.{◌≡◌, ◌≢◌, ℕ, ◌<◌, ◌≤◌, ◌==◌, ◌⊎◌, Option, None, IsSome, List, [], ◌∷◌, length, if◌then◌else◌}
use Rattle.std.specs.List.{find}
use Rattle.pci_command.specs.declared.request.Request.{Request}
use Rattle.lane_items.specs.declared.requests.slot_table.SlotEntry.{SlotEntry}

-- the slots that are held, in the order in which their requests were latched, and how many may be
-- held at once
pub record Slots : Type 0 where
  pub depth : ℕ
  pub slots : List SlotEntry

-- the held slot of this number
abbrev pub slot_at : ℕ → List SlotEntry → Option SlotEntry
slot_at number slots = find (λ slot. slot.number == number) slots

-- the slot of this number is held
abbrev pub IsHeld : ℕ → List SlotEntry → Type 0
IsHeld number slots = IsSome (slot_at number slots)

-- the least number of which no slot is held
pub record IsLowestFree (number : ℕ) (slots : List SlotEntry) : Type 0 where
  pub free : ¬ IsHeld number slots
  pub lowest : (lower : ℕ) → lower < number → IsHeld lower slots

-- a slot was latched for the initiator of this tag, with this request: by these two an initiator
-- that repeats its request is known again
abbrev pub IsOwn : ℕ → Request → SlotEntry → Type 0
IsOwn tag request slot = (slot.tag ≡ tag) × (slot.request ≡ request)

-- this is the number of the held slot with this tag and request, the first latched if there are more
abbrev pub IsOwnNumber : ℕ → Request → List SlotEntry → ℕ → Type 0
IsOwnNumber tag request [] number = ⊥
IsOwnNumber tag request (slot ∷ later) number =
    (IsOwn tag request slot × (slot.number ≡ number))
    ⊎ ((¬ IsOwn tag request slot) × IsOwnNumber tag request later number)

-- no held slot has this tag and request
abbrev pub HasNoOwn : ℕ → Request → List SlotEntry → Type 0
HasNoOwn tag request [] = Unit {0}
HasNoOwn tag request (slot ∷ later) = (¬ IsOwn tag request slot) × HasNoOwn tag request later

-- for every other number the same slot is held after a call as before, or none as before
abbrev pub KeepsOthers : ℕ → List SlotEntry → List SlotEntry → Type 0
KeepsOthers number old new = (other : ℕ) → other ≢ number → slot_at other new ≡ slot_at other old

-- the held slots in their order, without that of this number
abbrev pub without : ℕ → List SlotEntry → List SlotEntry
without number [] = []
without number (slot ∷ later) = if slot.number == number then later else slot ∷ without number later

-- no two held slots have one number
abbrev pub IsOneForEachNumber : List SlotEntry → Type 0
IsOneForEachNumber [] = Unit {0}
IsOneForEachNumber (slot ∷ later) = (slot_at slot.number later ≡ None) × IsOneForEachNumber later

-- a depth is from 1 to 8, no more slots are held than it allows, no two of one number, and each of
-- a number below it
pub record IsSlotTable (table : Slots) : Type 0 where
  pub at_least_one : 1 ≤ table.depth
  pub at_most_eight : table.depth ≤ 8
  pub within : length table.slots ≤ table.depth
  pub one_for_each_number : IsOneForEachNumber table.slots
  pub below_depth : (number : ℕ) → IsHeld number table.slots → number < table.depth
