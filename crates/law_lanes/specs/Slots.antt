-- Where the item of each held slot is: PCI-to-PCI Bridge Architecture Specification 1.1, chapter 5 (from memory), and
-- PCI Local Bus Specification 2.2, section 3.3.3.3 (from memory; delayed transactions).
use Rattle.std.specs.Prelude.{◌≡◌, ℕ, ◌+◌, ◌≤◌, List, Some, IsSome, ◌==◌, if◌then◌else◌}
use Rattle.std.specs.List.{find, AllByRecursion}
use Rattle.list_facts.specs.Lists.{total}
use Rattle.pci_command.specs.declared.op_id.OpId.{OpId}
use Rattle.pci_command.specs.declared.op_id.Outcome.{Outcome}
use Rattle.history_model.specs.declared.item.Carried.{Carried}
use Rattle.history_model.specs.declared.item.Carried.TheVariants.{Post, Ask, Done, Room, Gone}
use Rattle.history_model.specs.declared.item.Slot.{Slot}
use Rattle.history_model.specs.Lanes.{Both, has_number, is_done_for}
use Rattle.history_model.specs.Local.{is_ask_of, is_gone_of}

-- the weight that counts one number
abbrev pub hit : ℕ → ℕ → ℕ
hit number other = if other == number then 1 else 0

-- the weight of a held slot, by its number
abbrev pub slot_weight : (ℕ → ℕ) → Slot → ℕ
slot_weight weight slot = weight slot.number

-- the weight of a delayed request, of a completion and of the word that a request was dropped, by the
-- number of the slot that they name; any other item weighs nothing
abbrev pub ask_weight : (ℕ → ℕ) → Carried → ℕ
ask_weight weight (Post op) = 0
ask_weight weight (Ask op slot) = weight slot
ask_weight weight (Done op slot outcome) = 0
ask_weight weight Room = 0
ask_weight weight (Gone slot) = 0

-- the same of a completion
abbrev pub done_weight : (ℕ → ℕ) → Carried → ℕ
done_weight weight (Post op) = 0
done_weight weight (Ask op slot) = 0
done_weight weight (Done op slot outcome) = weight slot
done_weight weight Room = 0
done_weight weight (Gone slot) = 0

-- the same of the word that a request was dropped
abbrev pub gone_weight : (ℕ → ℕ) → Carried → ℕ
gone_weight weight (Post op) = 0
gone_weight weight (Ask op slot) = 0
gone_weight weight (Done op slot outcome) = 0
gone_weight weight Room = 0
gone_weight weight (Gone slot) = weight slot

-- the weights of the items of a lane's slots in all five places: the requests in flight and standing on
-- the lane, the completions in flight and standing on the lane back, and the words of dropped requests
-- in flight there
abbrev pub places : (ℕ → ℕ) → Both → ℕ
places weight x =
    total (ask_weight weight) x.here.flight + total (ask_weight weight) x.here.standing
    + total (done_weight weight) x.back.flight + total (done_weight weight) x.back.standing
    + total (gone_weight weight) x.back.flight

-- the slot of this number is held, for this operation
pub record IsHeldFor (held : List Slot) (number : ℕ) (o : OpId) : Type 0 where
  pub slot : Slot
  pub is_held : find (has_number number) held ≡ Some slot
  pub is_for : slot.op ≡ o

-- a delayed request, or a completion, has its slot held for the operation that it names
abbrev pub AskNamed : List Slot → Carried → Type 0
AskNamed held (Post op) = Unit {0}
AskNamed held (Ask op slot) = IsHeldFor held slot op
AskNamed held (Done op slot outcome) = Unit {0}
AskNamed held Room = Unit {0}
AskNamed held (Gone slot) = Unit {0}

-- the same of a completion
abbrev pub DoneNamed : List Slot → Carried → Type 0
DoneNamed held (Post op) = Unit {0}
DoneNamed held (Ask op slot) = Unit {0}
DoneNamed held (Done op slot outcome) = IsHeldFor held slot op
DoneNamed held Room = Unit {0}
DoneNamed held (Gone slot) = Unit {0}

-- what holds of the slots at a lane's near face, in every run
pub record Slots (x : Both) : Type 0 where
  -- by every weight of numbers, the items of the slots weigh what the held slots weigh
  pub one_place : (weight : ℕ → ℕ) → places weight x ≡ total (slot_weight weight) x.here.held
  -- no number is held twice
  pub once : (number : ℕ) → total (slot_weight (hit number)) x.here.held ≤ 1
  -- each item names the operation that its slot is held for
  pub asks_flying : AllByRecursion (AskNamed x.here.held) x.here.flight
  pub asks_standing : AllByRecursion (AskNamed x.here.held) x.here.standing
  pub dones_flying : AllByRecursion (DoneNamed x.here.held) x.back.flight
  pub dones_standing : AllByRecursion (DoneNamed x.here.held) x.back.standing

-- the item of a held slot in one of the five places
pub data ItemOf (slot : Slot) (x : Both) : Type 0 where
  -- its delayed request is in flight on the lane, or stands at the far face
  ask_flies : find (is_ask_of slot.number) x.here.flight ≡ Some (Ask slot.op slot.number) → ItemOf slot x
  ask_stands : find (is_ask_of slot.number) x.here.standing ≡ Some (Ask slot.op slot.number) → ItemOf slot x
  -- its completion is in flight on the lane back, or stands at the near face
  done_flies : (outcome : Outcome) → find (is_done_for slot.number) x.back.flight ≡ Some (Done slot.op slot.number outcome) → ItemOf slot x
  done_stands : (outcome : Outcome) → find (is_done_for slot.number) x.back.standing ≡ Some (Done slot.op slot.number outcome) → ItemOf slot x
  -- the word that it was dropped is in flight on the lane back
  gone_flies : find (is_gone_of slot.number) x.back.flight ≡ Some (Gone slot.number) → ItemOf slot x

-- a held slot has one item, of its operation, and there is no second one anywhere
pub record HasOneItem (x : Both) (slot : Slot) : Type 0 where
  pub somewhere : ItemOf slot x
  pub one : places (hit slot.number) x ≡ 1

-- the word that a request was dropped finds its slot held
abbrev pub GoneHeld : List Slot → Carried → Type 0
GoneHeld held (Post op) = Unit {0}
GoneHeld held (Ask op slot) = Unit {0}
GoneHeld held (Done op slot outcome) = Unit {0}
GoneHeld held Room = Unit {0}
GoneHeld held (Gone slot) = IsSome (find (has_number slot) held)
