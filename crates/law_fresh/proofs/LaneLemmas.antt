-- What an event does to the items of each lane, where the bus at its end is covered or not.
use Rattle.std.proofs.Common.{◌≡◌, ℕ, Bool, true, false, ◌||◌, List, [], ◌∷◌, ◌++◌, Option, Some, None, append_assoc, append-nil, refl, sym, subst, ◌∙◌}
use Rattle.std.specs.List.{find, list_any}
use Rattle.list_facts.specs.Lists.{less}
use Rattle.list_facts.proofs.FindLemmas.{find_passes}
use Rattle.pci_command.specs.declared.op_id.OpId.{OpId}
use Rattle.pci_command.specs.declared.op_id.Outcome.{Outcome}
use Rattle.pci_command.specs.Same.{same_op}
use Rattle.board_model.specs.declared.bridge.Lane.{Lane as BridgeLane}
use Rattle.board_model.specs.declared.board.Board.{Board}
use Rattle.history_model.specs.declared.event.By.{By}
use Rattle.history_model.specs.declared.event.Mark.{Mark}
use Rattle.history_model.specs.declared.event.Step.{Step}
use Rattle.history_model.specs.declared.event.Step.TheVariants.{Land, Part, Read, Accept, Latch, Take, Stall, MasterAbort, TargetAbort}
use Rattle.history_model.specs.declared.item.Carried.{Carried}
use Rattle.history_model.specs.declared.item.Carried.TheVariants.{Post, Ask, Done, Room, Gone}
use Rattle.history_model.specs.declared.item.Slot.{Slot}
use Rattle.history_model.specs.Lanes.{LaneState, Both, lowest_free, is_of, is_done_for, reply_to, item_ends, Effect, Stands, Credits, Frees, Drops, effect_of, takes_effect, came_off, arrives_first, arrives}
use Rattle.history_model.specs.World.{World, both, moved, is_own, slot_found, enters, leaves}
use Rattle.law_fresh.specs.Cover.{is_post_of, items, is_on_lane, Safe}
use Rattle.law_fresh.proofs.SafeLemmas.{Safe-sure, Safe-push, Safe-drop, Safe-less}
use Rattle.board_model.specs.Ways.{lane_back}
use Rattle.law_lanes.proofs.Laws.{IsRoom, IsLastOf, IsAskOf, Fits, effect_fits}
use Rattle.history_model.proofs.facts.RequestLemmas.{same_op_true}
use Rattle.history_model.proofs.facts.MovedLemmas.{moved_each}

-- a completion is no posted write
pub done_other : (w : OpId) (number : ℕ) (item : Carried) → is_done_for number item ≡ true → is_post_of w item ≡ false
done_other w number (Post q) is = cc
done_other w number (Ask q slot) is = refl
done_other w number (Done q slot outcome) is = refl
done_other w number Room is = refl
done_other w number (Gone slot) is = refl

-- an item of another operation is not that posted write
pub of_other : (w o : OpId) → same_op o w ≡ false → (item : Carried) → is_of o item ≡ true → is_post_of w item ≡ false
of_other w o other (Post q) is = subst (λ p. same_op p w ≡ false) (same_op_true o q is) other
of_other w o other (Ask q slot) is = refl
of_other w o other (Done q slot outcome) is = cc
of_other w o other Room is = cc
of_other w o other (Gone slot) is = cc

-- what frees a slot, or is a credit, is none
pub room_other : (w : OpId) (item : Carried) → IsRoom item → is_post_of w item ≡ false
room_other w (Post q) fits = absurd fits
room_other w (Ask q slot) fits = refl
room_other w (Done q slot outcome) fits = refl
room_other w Room fits = refl
room_other w (Gone slot) fits = refl

pub last_other : (w : OpId) (number : ℕ) (item : Carried) → IsLastOf number item → is_post_of w item ≡ false
last_other w number (Post q) fits = absurd fits
last_other w number (Ask q slot) fits = refl
last_other w number (Done q slot outcome) fits = refl
last_other w number Room fits = refl
last_other w number (Gone slot) fits = refl

pub ask_other : (w : OpId) (number : ℕ) (item : Carried) → IsAskOf number item → is_post_of w item ≡ false
ask_other w number (Post q) fits = absurd fits
ask_other w number (Ask q slot) fits = refl
ask_other w number (Done q slot outcome) fits = refl
ask_other w number Room fits = refl
ask_other w number (Gone slot) fits = refl

module _ (w : OpId) (test : Carried → Bool) (room : test Room ≡ false) (gone : (slot : ℕ) → test (Gone slot) ≡ false) (sure : BridgeLane → Bool) where
  -- a lane is safe
  abbrev pub LaneSafe : BridgeLane → LaneState → Type 0
  LaneSafe lane state = Safe test w (sure lane) (items state)

  abbrev pub WorldSafe : World → Type 0
  WorldSafe world = (lane : BridgeLane) → LaneSafe lane (world lane)

  -- so it is with one more item in flight
  push_safe : (lane : BridgeLane) (state : LaneState) (item : Carried) → LaneSafe lane state → (test item ≡ true → (sure lane || list_any (is_post_of w) (items state)) ≡ true)
      → Safe test w (sure lane) (state.standing ++ (state.flight ++ item ∷ []))
  push_safe lane state item old new =
      subst (Safe test w (sure lane)) (append_assoc state.standing state.flight (item ∷ [])) (Safe-push w test (sure lane) (items state) item old new)

  -- what enters a lane
  abbrev pub EntersSafe : World → BridgeLane → OpId → Step → Type 0
  EntersSafe world lane o Land = Unit {0}
  EntersSafe world lane o (Part phases) = Unit {0}
  EntersSafe world lane o (Read value) = Unit {0}
  EntersSafe world lane o Accept = test (Post o) ≡ true → (sure lane || is_on_lane w world lane) ≡ true
  EntersSafe world lane o Latch = (slot : ℕ) → test (Ask o slot) ≡ true → (sure lane || is_on_lane w world lane) ≡ true
  EntersSafe world lane o (Take outcome) = Unit {0}
  EntersSafe world lane o Stall = Unit {0}
  EntersSafe world lane o MasterAbort = Unit {0}
  EntersSafe world lane o TargetAbort = Unit {0}

  module _ (world : World) (old : WorldSafe world) where
    abbrev Pair : BridgeLane → Both → Type 0
    Pair lane x = LaneSafe lane x.here × LaneSafe (lane_back lane) x.back

    slot_safe : (lane : BridgeLane) (own : Option Slot) → Pair lane (slot_found own (both world lane))
    slot_safe lane None = (old lane, old (lane_back lane))
    slot_safe lane (Some slot) =
        (old lane, Safe-less w test (sure (lane_back lane)) (is_done_for slot.number) (world (lane_back lane)).standing (world (lane_back lane)).flight (done_other w slot.number) (old (lane_back lane)))

    enters_pair : (board : Board) (on : ℕ) (by : By) (o : OpId) (step : Step) (lane : BridgeLane) → EntersSafe world lane o step → Pair lane (enters board on by o step (both world lane))
    enters_pair board on by o Land lane new = (old lane, old (lane_back lane))
    enters_pair board on by o (Part phases) lane new = (old lane, old (lane_back lane))
    enters_pair board on by o (Read value) lane new = (old lane, old (lane_back lane))
    enters_pair board on by o Accept lane new = (push_safe lane (world lane) (Post o) (old lane) new, old (lane_back lane))
    enters_pair board on by o Latch lane new = (push_safe lane (world lane) (Ask o (lowest_free (world lane).held)) (old lane) (new (lowest_free (world lane).held)), old (lane_back lane))
    enters_pair board on by o (Take outcome) lane new = slot_safe lane (find (is_own board on by o) (world lane).held)
    enters_pair board on by o Stall lane new = (old lane, old (lane_back lane))
    enters_pair board on by o MasterAbort lane new = (old lane, old (lane_back lane))
    enters_pair board on by o TargetAbort lane new = (old lane, old (lane_back lane))

    -- after what a step does at a lane
    pub enters_safe : (board : Board) (on : ℕ) (by : By) (o : OpId) (step : Step) (lane : BridgeLane) → EntersSafe world lane o step → WorldSafe (moved (enters board on by o step) lane world)
    enters_safe board on by o step lane new =
        let pair = enters_pair board on by o step lane new in
        moved_each LaneSafe (enters board on by o step) lane world (λ l _ _. old l) pair.0 pair.1

    -- what goes back
    abbrev pub ReplySafe : BridgeLane → OpId → Outcome → Type 0
    ReplySafe k o outcome = (slot : ℕ) → test (Done o slot outcome) ≡ true → (sure (lane_back k) || is_on_lane w world (lane_back k)) ≡ true

    reply_safe : (k : BridgeLane) (o : OpId) (outcome : Outcome) (item : Option Carried) → ((found : Carried) → item ≡ Some found → is_of o found ≡ true) → ReplySafe k o outcome
        → Safe test w (sure (lane_back k)) ((world (lane_back k)).standing ++ ((world (lane_back k)).flight ++ reply_to outcome item))
    reply_safe k o outcome None passes new = subst (λ f. Safe test w (sure (lane_back k)) ((world (lane_back k)).standing ++ f)) (sym (append-nil (world (lane_back k)).flight)) (old (lane_back k))
    reply_safe k o outcome (Some (Post q)) passes new = push_safe (lane_back k) (world (lane_back k)) Room (old (lane_back k)) (λ is. let e : true ≡ false = sym is ∙ room in cc)
    reply_safe k o outcome (Some (Ask q slot)) passes new =
        let same : o ≡ q = same_op_true o q (passes (Ask q slot) refl) in
        push_safe (lane_back k) (world (lane_back k)) (Done q slot outcome) (old (lane_back k)) (λ is. new slot (subst (λ p. test (Done p slot outcome) ≡ true) (sym same) is))
    reply_safe k o outcome (Some (Done q slot given)) passes new = subst (λ f. Safe test w (sure (lane_back k)) ((world (lane_back k)).standing ++ f)) (sym (append-nil (world (lane_back k)).flight)) (old (lane_back k))
    reply_safe k o outcome (Some Room) passes new = subst (λ f. Safe test w (sure (lane_back k)) ((world (lane_back k)).standing ++ f)) (sym (append-nil (world (lane_back k)).flight)) (old (lane_back k))
    reply_safe k o outcome (Some (Gone slot)) passes new = subst (λ f. Safe test w (sure (lane_back k)) ((world (lane_back k)).standing ++ f)) (sym (append-nil (world (lane_back k)).flight)) (old (lane_back k))

    -- what presented it is gone
    less_safe : (k : BridgeLane) (o : OpId) → (same_op o w ≡ true → sure k ≡ true) → Safe test w (sure k) (less (is_of o) (world k).standing ++ (world k).flight)
    less_safe k o lost =
        let P : Bool → Type 0 = λ b. same_op o w ≡ b → Safe test w (sure k) (less (is_of o) (world k).standing ++ (world k).flight) in
        (elim (same_op o w) as P [
          | true ↦ λ same. subst (λ b. Safe test w b (less (is_of o) (world k).standing ++ (world k).flight)) (sym (lost same)) (Safe-sure w test (less (is_of o) (world k).standing ++ (world k).flight))
          | false ↦ λ other. Safe-less w test (sure k) (is_of o) (world k).standing (world k).flight (of_other w o other) (old k)
        ]) refl

    pub leaves_safe : (k : BridgeLane) (o : OpId) (outcome : Outcome) → (same_op o w ≡ true → sure k ≡ true) → ReplySafe k o outcome → WorldSafe (leaves k o (Some outcome) world)
    leaves_safe k o outcome lost new =
        moved_each LaneSafe (item_ends o outcome) k world (λ l _ _. old l)
        (less_safe k o lost)
        (reply_safe k o outcome (find (is_of o) (world k).standing) (λ found is. find_passes (is_of o) (world k).standing found is) new)

    -- an arrival
    came : (lane : BridgeLane) (item : Carried) (rest : List Carried) → (world lane).flight ≡ item ∷ rest → Safe test w (sure lane) ((world lane).standing ++ item ∷ rest)
    came lane item rest is = subst (λ f. Safe test w (sure lane) ((world lane).standing ++ f)) is (old lane)

    effect_safe : (lane : BridgeLane) (effect : Effect) (item : Carried) (rest : List Carried) → (world lane).flight ≡ item ∷ rest → Fits effect item
        → Pair lane (takes_effect effect item (record (both world lane) { here = came_off item rest (world lane) }))
    effect_safe lane Stands item rest is fits =
        (subst (Safe test w (sure lane)) (sym (append_assoc (world lane).standing (item ∷ []) rest)) (came lane item rest is), old (lane_back lane))
    effect_safe lane Credits item rest is fits = (Safe-drop w test (sure lane) (world lane).standing item rest (room_other w item fits) (came lane item rest is), old (lane_back lane))
    effect_safe lane (Frees slot) item rest is fits = (Safe-drop w test (sure lane) (world lane).standing item rest (last_other w slot item fits) (came lane item rest is), old (lane_back lane))
    effect_safe lane (Drops slot) item rest is fits = (
      Safe-drop w test (sure lane) (world lane).standing item rest (ask_other w slot item fits) (came lane item rest is),
      push_safe (lane_back lane) (world (lane_back lane)) (Gone slot) (old (lane_back lane)) (λ bears. let e : true ≡ false = sym bears ∙ gone slot in cc),
    )

    pub arrives_safe : (lane : BridgeLane) (mark : Mark) → WorldSafe (moved (arrives mark) lane world)
    arrives_safe lane mark =
        let P : List Carried → Type 0 = λ flight. (world lane).flight ≡ flight → Pair lane (arrives_first mark flight (both world lane)) in
        let pair = (elim (world lane).flight as P [
          | [] ↦ λ _. (old lane, old (lane_back lane))
          | item ∷ rest ↦ λ is. effect_safe lane (effect_of mark item) item rest is (effect_fits mark item)
        ]) refl in
        moved_each LaneSafe (arrives mark) lane world (λ l _ _. old l) pair.0 pair.1
