-- A completion stands only for a request whose slot is held.
use Rattle.std.specs.Prelude.{◌≡◌, ℕ, List}
use Rattle.lane_items.specs.declared.requests.slot_table.SlotEntry.{SlotEntry}
use Rattle.lane_items.specs.requests.Slots.{Slots, IsHeld}
use Rattle.lane_items.specs.declared.completions.done_table.Done.{Done}
use Rattle.lane_items.specs.completions.Completions.{Completions, IsStanding}

-- the slot of each completion that stands is held
abbrev pub HoldsSlots : List SlotEntry → List Done → Type 0
HoldsSlots slots dones = (slot : ℕ) → IsStanding slot dones → IsHeld slot slots

-- what holds of every half bridge
pub record IsFace (slots : Slots) (dones : Completions) : Type 0 where
  pub holds : HoldsSlots slots.slots dones.dones
  pub depths : slots.depth ≡ dones.depth
