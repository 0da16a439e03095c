-- What is on the two lanes of a bridge, and how an event moves it: PCI-to-PCI Bridge Architecture
-- Specification 1.1, chapter 5 (buffer management; chapter from memory).
use Rattle.std.specs.Prelude.{ℕ, Bool, true, false, ◌+◌, ◌-◌, suc, zero, List, [], ◌∷◌, ◌++◌, length, Option, Some, None, ◌==◌, if◌then◌else◌}
use Rattle.std.specs.List.{find, list_any}
use Rattle.list_facts.specs.Lists.{less}
use Rattle.pci_command.specs.declared.op_id.OpId.{OpId}
use Rattle.pci_command.specs.declared.op_id.Outcome.{Outcome}
use Rattle.pci_command.specs.Same.{same_op}
use Rattle.history_model.specs.declared.event.By.{By}
use Rattle.history_model.specs.declared.event.Mark.{Mark}
use Rattle.history_model.specs.declared.event.Mark.TheVariants.{Plain, Discard, Drop}
use Rattle.history_model.specs.declared.item.Carried.{Carried}
use Rattle.history_model.specs.declared.item.Carried.TheVariants.{Post, Ask, Done, Room, Gone}
use Rattle.history_model.specs.declared.item.Slot.{Slot}

-- one lane of a bridge, and what the bridge's face where it begins keeps of it
pub record LaneState : Type 0 where
  -- how many delayed requests and completions arrived so far: what the marks of a board count
  pub asks : ℕ
  pub dones : ℕ
  -- what is in flight, oldest first
  pub flight : List Carried
  -- what arrived at the far face and was not taken yet, oldest first
  pub standing : List Carried
  -- the slots held at the near face, in the order of latching
  pub held : List Slot
  -- the posted writes accepted at the near face, less the credits that came back
  pub owed : ℕ

-- before the first event nothing is on a lane
abbrev pub empty_lane : LaneState
empty_lane = record { asks = 0; dones = 0; flight = []; standing = []; held = []; owed = 0 }

-- a lane, and the lane back
pub record Both : Type 0 where
  pub here : LaneState
  pub back : LaneState

-- a posted write or a delayed request of the operation
abbrev pub is_of : OpId → Carried → Bool
is_of o (Post op) = same_op o op
is_of o (Ask op slot) = same_op o op
is_of o (Done op slot outcome) = false
is_of o Room = false
is_of o (Gone slot) = false

-- the completion for the slot
abbrev pub is_done_for : ℕ → Carried → Bool
is_done_for number (Post op) = false
is_done_for number (Ask op slot) = false
is_done_for number (Done op slot outcome) = slot == number
is_done_for number Room = false
is_done_for number (Gone slot) = false

-- a posted write
abbrev pub is_post : Carried → Bool
is_post (Post op) = true
is_post (Ask op slot) = false
is_post (Done op slot outcome) = false
is_post Room = false
is_post (Gone slot) = false

-- the slot has the number
abbrev pub has_number : ℕ → Slot → Bool
has_number number slot = slot.number == number

-- the lowest number from `number` on that no slot has, of the next so many
abbrev pub lowest_free_from : ℕ → ℕ → List Slot → ℕ
lowest_free_from zero number held = number
lowest_free_from (suc more) number held =
    if list_any (has_number number) held then lowest_free_from more (number + 1) held else number

-- the lowest number that no held slot has
abbrev pub lowest_free : List Slot → ℕ
lowest_free held = lowest_free_from (length held) 0 held

-- a posted write is accepted: it is in flight, and owed until its credit comes back
abbrev pub post_enters : OpId → Both → Both
post_enters o x = record x { here = record (x.here) { flight = x.here.flight ++ Post o ∷ []; owed = x.here.owed + 1 } }

-- a delayed request is latched: the lowest free slot is held for it with the local master that
-- presented it, and the request is in flight
abbrev pub ask_enters : By → OpId → Both → Both
ask_enters by o x =
    let number = lowest_free x.here.held in
    record x {
      here = record (x.here) {
        flight = x.here.flight ++ Ask o number ∷ [];
        held = x.here.held ++ record { number = number; by = by; op = o } ∷ [];
      };
    }

-- what goes back for an item that ended: a credit for a posted write, the completion of a delayed request
abbrev pub reply_to : Outcome → Option Carried → List Carried
reply_to outcome None = []
reply_to outcome (Some (Post op)) = Room ∷ []
reply_to outcome (Some (Ask op slot)) = Done op slot outcome ∷ []
reply_to outcome (Some (Done op slot given)) = []
reply_to outcome (Some Room) = []
reply_to outcome (Some (Gone slot)) = []

-- the oldest standing item of the operation ends: it leaves, and its answer goes back
abbrev pub item_ends : OpId → Outcome → Both → Both
item_ends o outcome x =
    record {
      here = record (x.here) { standing = less (is_of o) x.here.standing };
      back = record (x.back) { flight = x.back.flight ++ reply_to outcome (find (is_of o) x.here.standing) };
    }

-- the completion for a slot is given to its local master: the completion leaves, and the slot is free
abbrev pub slot_taken : ℕ → Both → Both
slot_taken number x =
    record {
      here = record (x.here) { held = less (has_number number) x.here.held };
      back = record (x.back) { standing = less (is_done_for number) x.back.standing };
    }

-- what an arrival does
pub data Effect : Type 0 where
  -- the item stands at the far face
  Stands : Effect
  -- a credit: one posted write less is owed on the lane back
  Credits : Effect
  -- a slot of the lane back is free: its completion was discarded, or its request dropped
  Frees : ℕ → Effect
  -- a delayed request is dropped, and the near face is told so
  Drops : ℕ → Effect

-- of a delayed request: it stands, or is dropped where the board says so
abbrev pub effect_on_ask : Mark → ℕ → Effect
effect_on_ask Plain slot = Stands
effect_on_ask Discard slot = Stands
effect_on_ask Drop slot = Drops slot

-- of a completion: it stands, or is discarded and its slot freed where the board says so
abbrev pub effect_on_done : Mark → ℕ → Effect
effect_on_done Plain slot = Stands
effect_on_done Discard slot = Frees slot
effect_on_done Drop slot = Stands

-- of any item, by the mark of its arrival
abbrev pub effect_of : Mark → Carried → Effect
effect_of mark (Post op) = Stands
effect_of mark (Ask op slot) = effect_on_ask mark slot
effect_of mark (Done op slot outcome) = effect_on_done mark slot
effect_of mark Room = Credits
effect_of mark (Gone slot) = Frees slot

-- what the effect does to the lane of the arrival and to the lane back
abbrev pub takes_effect : Effect → Carried → Both → Both
takes_effect Stands item x = record x { here = record (x.here) { standing = x.here.standing ++ item ∷ [] } }
takes_effect Credits item x = record x { back = record (x.back) { owed = x.back.owed - 1 } }
takes_effect (Frees slot) item x = record x { back = record (x.back) { held = less (has_number slot) x.back.held } }
takes_effect (Drops slot) item x = record x { back = record (x.back) { flight = x.back.flight ++ Gone slot ∷ [] } }

-- 1 for a delayed request
abbrev pub asks_in : Carried → ℕ
asks_in (Post op) = 0
asks_in (Ask op slot) = 1
asks_in (Done op slot outcome) = 0
asks_in Room = 0
asks_in (Gone slot) = 0

-- 1 for a completion
abbrev pub dones_in : Carried → ℕ
dones_in (Post op) = 0
dones_in (Ask op slot) = 0
dones_in (Done op slot outcome) = 1
dones_in Room = 0
dones_in (Gone slot) = 0

-- an item came off the lane, and is counted
abbrev pub came_off : Carried → List Carried → LaneState → LaneState
came_off item rest lane =
    record lane { asks = lane.asks + asks_in item; dones = lane.dones + dones_in item; flight = rest }

-- the first of these items in flight arrives
abbrev pub arrives_first : Mark → List Carried → Both → Both
arrives_first mark [] x = x
arrives_first mark (item ∷ rest) x = takes_effect (effect_of mark item) item (record x { here = came_off item rest x.here })

-- the oldest item in flight arrives
abbrev pub arrives : Mark → Both → Both
arrives mark x = arrives_first mark x.here.flight x
