-- Where a posted write is, it stays, or it leaves as its lane presents it.
use Rattle.std.proofs.Common.{◌≡◌, ℕ, Bool, true, false, ◌||◌, List, [], ◌∷◌, ◌++◌, Option, Some, None, append_assoc, refl, sym, subst, ◌∙◌}
use Rattle.std.specs.List.{find, list_any}
use Rattle.std.proofs.lemmas.Bool.{or_left, or_right}
use Rattle.std.proofs.lemmas.List.Folds.{list_any-append}
use Rattle.list_facts.specs.Lists.{less}
use Rattle.pci_command.specs.declared.op_id.OpId.{OpId}
use Rattle.pci_command.specs.declared.op_id.Outcome.{Outcome}
use Rattle.pci_command.specs.Same.{same_op}
use Rattle.board_model.specs.declared.bridge.Lane.{Lane as BridgeLane}
use Rattle.board_model.specs.declared.bridge.Place.{Place}
use Rattle.board_model.specs.declared.bridge.Place.TheVariants.{Target, Header, Lane, Nobody}
use Rattle.board_model.specs.declared.board.Board.{Board}
use Rattle.history_model.specs.declared.event.By.{By}
use Rattle.history_model.specs.declared.event.Mark.{Mark}
use Rattle.history_model.specs.declared.event.Step.{Step}
use Rattle.history_model.specs.declared.event.Step.TheVariants.{Land, Part, Read, Accept, Latch, Take, Stall, MasterAbort, TargetAbort}
use Rattle.history_model.specs.declared.item.Carried.{Carried}
use Rattle.history_model.specs.declared.item.Carried.TheVariants.{Post, Ask, Gone}
use Rattle.history_model.specs.declared.item.Slot.{Slot}
use Rattle.history_model.specs.Lanes.{LaneState, Both, lowest_free, is_of, is_done_for, reply_to, item_ends, Effect, Stands, Credits, Frees, Drops, effect_of, takes_effect, came_off, arrives_first, arrives}
use Rattle.history_model.specs.World.{World, both, moved, is_own, slot_found, enters, at_place, leaves}
use Rattle.law_fresh.specs.Cover.{is_post_of, items, is_on_lane}
use Rattle.law_fresh.proofs.ListLemmas.{or_either}
use Rattle.law_fresh.proofs.LaneLemmas.{done_other, of_other, room_other, last_other, ask_other}
use Rattle.board_model.specs.Ways.{lane_back}
use Rattle.history_model.proofs.facts.BridgeLemmas.{same_lane_self}
use Rattle.law_lanes.proofs.Laws.{Fits, effect_fits}
use Rattle.history_model.proofs.facts.RequestLemmas.{same_op_self}
use Rattle.history_model.proofs.facts.MovedLemmas.{moved_each}
use Rattle.list_facts.proofs.AnyLemmas.{any-less_kind}

module _ (w : OpId) where
  -- the posted write is among these
  abbrev pub Has : List Carried → Type 0
  Has xs = list_any (is_post_of w) xs ≡ true

  -- it is on the lane
  abbrev pub On : LaneState → Type 0
  On state = Has (items state)

  has_left : (xs ys : List Carried) → Has xs → Has (xs ++ ys)
  has_left xs ys is = list_any-append (is_post_of w) xs ys ∙ or_left (list_any (is_post_of w) xs) (list_any (is_post_of w) ys) is

  has_right : (xs ys : List Carried) → Has ys → Has (xs ++ ys)
  has_right xs ys is = list_any-append (is_post_of w) xs ys ∙ or_right (list_any (is_post_of w) xs) (list_any (is_post_of w) ys) is

  has_either : (X : Type 0) (xs ys : List Carried) → (Has xs → X) → (Has ys → X) → Has (xs ++ ys) → X
  has_either X xs ys first second is =
      or_either X (list_any (is_post_of w) xs) (list_any (is_post_of w) ys) first second (sym (list_any-append (is_post_of w) xs ys) ∙ is)

  -- it stays with more in flight
  on_more : (state : LaneState) (more : List Carried) → On state → Has (state.standing ++ (state.flight ++ more))
  on_more state more is = subst Has (append_assoc state.standing state.flight more) (has_left (items state) more is)

  -- it stays where another leaves
  on_less : (gone : Carried → Bool) (xs ys : List Carried) → ((x : Carried) → gone x ≡ true → is_post_of w x ≡ false) → Has (xs ++ ys) → Has (less gone xs ++ ys)
  on_less gone xs ys other is =
      has_either (Has (less gone xs ++ ys)) xs ys
      (λ here. has_left (less gone xs) ys (any-less_kind (is_post_of w) gone other xs ∙ here))
      (λ there. has_right (less gone xs) ys there) is

  on_drop : (xs : List Carried) (x : Carried) (ys : List Carried) → is_post_of w x ≡ false → Has (xs ++ x ∷ ys) → Has (xs ++ ys)
  on_drop xs x ys other is =
      has_either (Has (xs ++ ys)) xs (x ∷ ys) (has_left xs ys)
      (λ there. has_right xs ys (let same : list_any (is_post_of w) (x ∷ ys) ≡ list_any (is_post_of w) ys = rw other refl in sym same ∙ there)) is

  module _ (world : World) where
    abbrev Stays : BridgeLane → LaneState → Type 0
    Stays lane state = On (world lane) → On state

    abbrev Pair : BridgeLane → Both → Type 0
    Pair lane x = Stays lane x.here × Stays (lane_back lane) x.back

    slot_pair : (lane : BridgeLane) (own : Option Slot) → Pair lane (slot_found own (both world lane))
    slot_pair lane None = (λ is. is, λ is. is)
    slot_pair lane (Some slot) = (λ is. is, λ is. on_less (is_done_for slot.number) (world (lane_back lane)).standing (world (lane_back lane)).flight (done_other w slot.number) is)

    enters_pair : (board : Board) (on : ℕ) (by : By) (o : OpId) (step : Step) (lane : BridgeLane) → Pair lane (enters board on by o step (both world lane))
    enters_pair board on by o Land lane = (λ is. is, λ is. is)
    enters_pair board on by o (Part phases) lane = (λ is. is, λ is. is)
    enters_pair board on by o (Read value) lane = (λ is. is, λ is. is)
    enters_pair board on by o Accept lane = (λ is. on_more (world lane) (Post o ∷ []) is, λ is. is)
    enters_pair board on by o Latch lane = (λ is. on_more (world lane) (Ask o (lowest_free (world lane).held) ∷ []) is, λ is. is)
    enters_pair board on by o (Take outcome) lane = slot_pair lane (find (is_own board on by o) (world lane).held)
    enters_pair board on by o Stall lane = (λ is. is, λ is. is)
    enters_pair board on by o MasterAbort lane = (λ is. is, λ is. is)
    enters_pair board on by o TargetAbort lane = (λ is. is, λ is. is)

    -- it stays at every lane whatever a step does where it was claimed
    pub place_on : (board : Board) (on : ℕ) (by : By) (o : OpId) (step : Step) (place : Place) (l : BridgeLane) → On (world l) → On (at_place board on by o step place world l)
    place_on board on by o step (Target target) l is = is
    place_on board on by o step (Header bus) l is = is
    place_on board on by o step (Lane lane) l is =
        let pair = enters_pair board on by o step lane in
        moved_each Stays (enters board on by o step) lane world (λ _ _ _ there. there) pair.0 pair.1 l is
    place_on board on by o step Nobody l is = is

    -- it stays where the item of another operation leaves
    less_on : (k : BridgeLane) (o : OpId) (lost : Bool) → (same_op o w ≡ true → lost ≡ true) → On (world k) → (list_any (is_post_of w) (less (is_of o) (world k).standing ++ (world k).flight) || lost) ≡ true
    less_on k o lost gone is =
        let new : Bool = list_any (is_post_of w) (less (is_of o) (world k).standing ++ (world k).flight) in
        let P : Bool → Type 0 = λ b. same_op o w ≡ b → (new || lost) ≡ true in
        (elim (same_op o w) as P [
          | true ↦ λ same. or_right new lost (gone same)
          | false ↦ λ other. or_left new lost (on_less (is_of o) (world k).standing (world k).flight (of_other w o other) is)
        ]) refl

    -- or the bus at the end of the lane that presented it is covered
    pub leaves_on : (lost : BridgeLane → Bool) (k : BridgeLane) (o : OpId) (outcome : Outcome) → (same_op o w ≡ true → lost k ≡ true) → (l : BridgeLane) → On (world l)
        → (is_on_lane w (leaves k o (Some outcome) world) l || lost l) ≡ true
    leaves_on lost k o outcome gone l is =
        let S : BridgeLane → LaneState → Type 0 = λ l state. On (world l) → (list_any (is_post_of w) (items state) || lost l) ≡ true in
        let back : LaneState = world (lane_back k) in
        let reply : List Carried = reply_to outcome (find (is_of o) (world k).standing) in
        moved_each S (item_ends o outcome) k world
        (λ l _ _ there. or_left (is_on_lane w world l) (lost l) there)
        (less_on k o (lost k) gone)
        (λ there. or_left (list_any (is_post_of w) (back.standing ++ (back.flight ++ reply))) (lost (lane_back k)) (on_more back reply there))
        l is

    -- what is in flight stays in flight as an item leaves
    pub leaves_flies : (k : BridgeLane) (o : OpId) (outcome : Option Outcome) (l : BridgeLane) → Has (world l).flight → Has (leaves k o outcome world l).flight
    leaves_flies k o None l is = is
    leaves_flies k o (Some outcome) l is =
        let S : BridgeLane → LaneState → Type 0 = λ l state. Has (world l).flight → Has state.flight in
        let reply : List Carried = reply_to outcome (find (is_of o) (world k).standing) in
        moved_each S (item_ends o outcome) k world (λ _ _ _ there. there) (λ there. there) (λ there. has_left (world (lane_back k)).flight reply there) l is

    -- an arrival
    came : (lane : BridgeLane) (item : Carried) (rest : List Carried) → (world lane).flight ≡ item ∷ rest → On (world lane) → Has ((world lane).standing ++ item ∷ rest)
    came lane item rest is on = subst (λ f. Has ((world lane).standing ++ f)) is on

    effect_on : (lane : BridgeLane) (effect : Effect) (item : Carried) (rest : List Carried) → (world lane).flight ≡ item ∷ rest → Fits effect item
        → Pair lane (takes_effect effect item (record (both world lane) { here = came_off item rest (world lane) }))
    effect_on lane Stands item rest is fits =
        (λ on. subst Has (sym (append_assoc (world lane).standing (item ∷ []) rest)) (came lane item rest is on), λ on. on)
    effect_on lane Credits item rest is fits = (λ on. on_drop (world lane).standing item rest (room_other w item fits) (came lane item rest is on), λ on. on)
    effect_on lane (Frees slot) item rest is fits = (λ on. on_drop (world lane).standing item rest (last_other w slot item fits) (came lane item rest is on), λ on. on)
    effect_on lane (Drops slot) item rest is fits =
        (λ on. on_drop (world lane).standing item rest (ask_other w slot item fits) (came lane item rest is on), λ on. on_more (world (lane_back lane)) (Gone slot ∷ []) on)

    -- it stays at every lane
    pub arrives_on : (lane : BridgeLane) (mark : Mark) (l : BridgeLane) → On (world l) → On (moved (arrives mark) lane world l)
    arrives_on lane mark l is =
        let P : List Carried → Type 0 = λ flight. (world lane).flight ≡ flight → Pair lane (arrives_first mark flight (both world lane)) in
        let pair = (elim (world lane).flight as P [
          | [] ↦ λ _. (λ on. on, λ on. on)
          | item ∷ rest ↦ λ first. effect_on lane (effect_of mark item) item rest first (effect_fits mark item)
        ]) refl in
        moved_each Stays (arrives mark) lane world (λ _ _ _ there. there) pair.0 pair.1 l is

    -- where a posted write is accepted it is in flight
    pub accept_flies : (board : Board) (on : ℕ) (by : By) (lane : BridgeLane) → Has (at_place board on by w Accept (Lane lane) world lane).flight
    accept_flies board on by lane =
        let self = same_lane_self lane in
        rw self (has_right (world lane).flight (Post w ∷ []) (or_left (same_op w w) false (same_op_self w)))
