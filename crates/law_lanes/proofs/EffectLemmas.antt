-- Which items have which effect when they arrive.
use Rattle.std.proofs.Common.{◌≡◌, ℕ, refl}
use Rattle.history_model.specs.declared.event.Mark.{Mark}
use Rattle.history_model.specs.declared.event.Mark.TheVariants.{Plain, Discard, Drop}
use Rattle.history_model.specs.declared.item.Carried.{Carried}
use Rattle.history_model.specs.declared.item.Carried.TheVariants.{Post, Ask, Done, Room, Gone}
use Rattle.history_model.specs.Lanes.{Effect, Stands, Credits, Frees, Drops, effect_on_ask, effect_on_done, effect_of}
use Rattle.law_lanes.specs.Standing.{CanStand}

-- a credit
abbrev pub IsRoom : Carried → Type 0
IsRoom (Post op) = ⊥
IsRoom (Ask op slot) = ⊥
IsRoom (Done op slot outcome) = ⊥
IsRoom Room = Unit {0}
IsRoom (Gone slot) = ⊥

-- a completion, or the word that a request was dropped, of this slot
abbrev pub IsLastOf : ℕ → Carried → Type 0
IsLastOf number (Post op) = ⊥
IsLastOf number (Ask op slot) = ⊥
IsLastOf number (Done op slot outcome) = slot ≡ number
IsLastOf number Room = ⊥
IsLastOf number (Gone slot) = slot ≡ number

-- a delayed request of this slot
abbrev pub IsAskOf : ℕ → Carried → Type 0
IsAskOf number (Post op) = ⊥
IsAskOf number (Ask op slot) = slot ≡ number
IsAskOf number (Done op slot outcome) = ⊥
IsAskOf number Room = ⊥
IsAskOf number (Gone slot) = ⊥

abbrev pub Fits : Effect → Carried → Type 0
Fits Stands item = CanStand item
Fits Credits item = IsRoom item
Fits (Frees slot) item = IsLastOf slot item
Fits (Drops slot) item = IsAskOf slot item

ask_fits : (mark : Mark) (item : Carried) → (slot : ℕ) → CanStand item → IsAskOf slot item → Fits (effect_on_ask mark slot) item
ask_fits Plain item slot stands is = stands
ask_fits Discard item slot stands is = stands
ask_fits Drop item slot stands is = is

done_fits : (mark : Mark) (item : Carried) → (slot : ℕ) → CanStand item → IsLastOf slot item → Fits (effect_on_done mark slot) item
done_fits Plain item slot stands is = stands
done_fits Discard item slot stands is = is
done_fits Drop item slot stands is = stands

pub effect_fits : (mark : Mark) (item : Carried) → Fits (effect_of mark item) item
effect_fits mark (Post op) = tt
effect_fits mark (Ask op slot) = ask_fits mark (Ask op slot) slot tt refl
effect_fits mark (Done op slot outcome) = done_fits mark (Done op slot outcome) slot tt refl
effect_fits mark Room = tt
effect_fits mark (Gone slot) = refl
