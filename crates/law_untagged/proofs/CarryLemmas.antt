-- What holds of each completion and the reading that made it, along a run.
use Rattle.std.proofs.Common.{◌≡◌, ℕ, ◌+◌, ◌≤◌, Bool, true, false, ◌&&◌, ◌||◌, ◌==◌, cond, eqb, eqb-true, List, [], ◌∷◌, ◌++◌, Option, Some, None, is_some, refl, sym, ap, subst, ◌∙◌, arith}
use Rattle.std.specs.List.{find, list_any, AllByRecursion}
use Rattle.std.proofs.lemmas.Bool.Decides.{nat_tests}
use Rattle.list_facts.specs.Lists.{less, total}
use Rattle.list_facts.proofs.EachLemmas.{Each-push, Each-append, Each-less, Each-find, Each-within, Each-weaker_zero}
use Rattle.list_facts.proofs.FindLemmas.{find_passes, find-less_other}
use Rattle.pci_command.specs.declared.request.Request.{Request}
use Rattle.pci_command.specs.declared.op_id.OpId.{OpId}
use Rattle.pci_command.specs.declared.op_id.Outcome.{Outcome}
use Rattle.pci_command.specs.declared.op_id.Outcome.TheVariants.{Value, Written, Aborted, Nobody as NobodyClaimed}
use Rattle.pci_command.specs.Command.{space_of}
use Rattle.pci_command.specs.Same.{same_op}
use Rattle.board_model.specs.declared.bridge.Lane.{Lane as BridgeLane}
use Rattle.board_model.specs.declared.bridge.Place.{Place}
use Rattle.board_model.specs.declared.bridge.Place.TheVariants.{Target, Header, Lane, Nobody}
use Rattle.board_model.specs.declared.board.Board.{Board}
use Rattle.board_model.specs.Requests.{request_of, reads}
use Rattle.board_model.specs.Ways.{Dword, address_in, lane_back}
use Rattle.history_model.specs.declared.event.By.{By}
use Rattle.history_model.specs.declared.event.By.TheVariants.{Master, Lane as ByLane}
use Rattle.history_model.specs.declared.event.Mark.{Mark}
use Rattle.history_model.specs.declared.event.Step.{Step}
use Rattle.history_model.specs.declared.event.Step.TheVariants.{Land, Part, Read, Accept, Latch, Take, Stall, MasterAbort, TargetAbort}
use Rattle.history_model.specs.declared.event.Event.{Event}
use Rattle.history_model.specs.declared.event.Event.TheVariants.{Act, Arrive}
use Rattle.history_model.specs.declared.item.Carried.{Carried}
use Rattle.history_model.specs.declared.item.Carried.TheVariants.{Post, Ask, Done, Room, Gone}
use Rattle.history_model.specs.declared.item.Slot.{Slot}
use Rattle.history_model.specs.declared.item.Answer.TheVariants.{Gives}
use Rattle.history_model.specs.Lanes.{Both, is_of, is_done_for, lowest_free, reply_to, item_ends, slot_taken, Effect, Stands, Credits, Frees, Drops, effect_of, takes_effect, came_off, arrives_first, arrives}
use Rattle.history_model.specs.declared.rule.Rule.TheVariants.{Untagged}
use Rattle.history_model.specs.World.{anyone, World, same_lane, both, moved, is_own, slot_found, enters, at_place, lane_outcome, leaves, at_initiator, world_by}
use Rattle.history_model.specs.Program.{Ending, ending_of, ended_by, master_outcome}
use Rattle.history_model.specs.Local.{is_ask_of}
use Rattle.history_model.specs.Knowledge.{value_in, value_of_ending, outcome_in, ends_as, ends_with, or_else, given_value, Reading, reading_of, reading_at, reading_by, reading_or}
use Rattle.law_lanes.specs.Slots.{hit, ask_weight, done_weight, slot_weight, places, Slots}
use Rattle.law_lanes.proofs.HeldLemmas.{hit-same}
use Rattle.history_model.proofs.facts.BridgeLemmas.{flip, both_back, same_lane_true, same_lane_self, same_lane_back, same_lane_symm, moved_keeps, moved_gives}
use Rattle.history_model.proofs.facts.AnswerLemmas.{AtLaneIn, answered_in}
use Rattle.history_model.proofs.facts.KeptLemmas.{place_keeps}
use Rattle.law_lanes.proofs.SlotsRunLemmas.{Slots-kept, Slots-run_by}
use Rattle.history_model.proofs.facts.RequestLemmas.{same_op_true}
use Rattle.law_untagged.specs.Untagged.{UntaggedAllowed, UntaggedRun}
use Rattle.law_untagged.specs.Origins.{Origins, origin_in, taken_from, taken_in, source_of, asks_for, ends_item, answers, origin_by, origins_of, ending_reading, untagged_got}

-- the completion of a slot is as its origin asks
abbrev pub Carries : (OpId → Outcome → Reading → Type 0) → (ℕ → Option Reading) → Carried → Type 0
Carries good origin (Post op) = Unit {0}
Carries good origin (Ask op slot) = Unit {0}
Carries good origin (Done op slot outcome) = (reading : Reading) → origin slot ≡ Some reading → good op outcome reading
Carries good origin Room = Unit {0}
Carries good origin (Gone slot) = Unit {0}

-- so are those of all slots that a lane holds
abbrev pub AllCarry : (OpId → Outcome → Reading → Type 0) → Origins → BridgeLane → Both → Type 0
AllCarry good origins lane x = AllByRecursion (Carries good (origins lane)) x.back.flight × AllByRecursion (Carries good (origins lane)) x.back.standing

module _ (good : OpId → Outcome → Reading → Type 0) where
  -- the completion that is taken from a lane
  pub taken_good : (board : Board) (world : World) (h : List Event) (origins : Origins) → ((l : BridgeLane) → AllCarry good origins l (both world l)) → (on : ℕ) (o : OpId) (outcome : Outcome) (lane : BridgeLane)
      → (at : AtLaneIn board world h on anyone o (Take outcome) lane) → (reading : Reading) → origin_in origins lane (find (is_own board on anyone o) (world lane).held) ≡ Some reading → good (at.gives.1.op) outcome reading
  taken_good board world h origins carry on o outcome lane at reading is =
      let taken = at.gives.1 in
      let coming : List Carried = (world (lane_back lane)).standing in
      let number : taken.number ≡ taken.slot.number = eqb-true taken.number taken.slot.number (find_passes (is_done_for taken.slot.number) coming (Done taken.op taken.number outcome) taken.stands) in
      let F : Option Slot → Type 0 = λ own. origin_in origins lane own ≡ Some reading in
      let origin : origins lane taken.slot.number ≡ Some reading = subst F taken.is_own_slot is in
      let carries : Carries good (origins lane) (Done taken.op taken.number outcome) = Each-find (Carries good (origins lane)) (is_done_for taken.slot.number) coming (Done taken.op taken.number outcome) (carry lane).1 taken.stands in
      carries reading (ap (origins lane) number ∙ origin)

  -- Where the event is claimed.

  slot_carries : (origins : Origins) (lane : BridgeLane) (own : Option Slot) (x : Both) → AllCarry good origins lane x × AllCarry good origins (lane_back lane) (flip x) → AllCarry good origins lane (slot_found own x) × AllCarry good origins (lane_back lane) (flip (slot_found own x))
  slot_carries origins lane None x old = old
  slot_carries origins lane (Some slot) x old = ((old.0.0, Each-less (Carries good (origins lane)) (is_done_for slot.number) x.back.standing old.0.1), old.1)

  enters_carries : (board : Board) (origins : Origins) (on : ℕ) (by : By) (o : OpId) (step : Step) (lane : BridgeLane) (x : Both) → AllCarry good origins lane x × AllCarry good origins (lane_back lane) (flip x)
      → AllCarry good origins lane (enters board on by o step x) × AllCarry good origins (lane_back lane) (flip (enters board on by o step x))
  enters_carries board origins on by o Land lane x old = old
  enters_carries board origins on by o (Part phases) lane x old = old
  enters_carries board origins on by o (Read value) lane x old = old
  enters_carries board origins on by o Accept lane x old = (old.0, (Each-push (Carries good (origins (lane_back lane))) x.here.flight (Post o) old.1.0 tt, old.1.1))
  enters_carries board origins on by o Latch lane x old = (old.0, (Each-push (Carries good (origins (lane_back lane))) x.here.flight (Ask o (lowest_free x.here.held)) old.1.0 tt, old.1.1))
  enters_carries board origins on by o (Take outcome) lane x old = slot_carries origins lane (find (is_own board on by o) x.here.held) x old
  enters_carries board origins on by o Stall lane x old = old
  enters_carries board origins on by o MasterAbort lane x old = old
  enters_carries board origins on by o TargetAbort lane x old = old

  both_ways : (origins : Origins) (world : World) (lane : BridgeLane) → ((l : BridgeLane) → AllCarry good origins l (both world l)) → AllCarry good origins lane (both world lane) × AllCarry good origins (lane_back lane) (flip (both world lane))
  both_ways origins world lane old = (old lane, subst (AllCarry good origins (lane_back lane)) (both_back world lane) (old (lane_back lane)))

  place_carries : (board : Board) (origins : Origins) (on : ℕ) (by : By) (o : OpId) (step : Step) (place : Place) (world : World) → ((l : BridgeLane) → AllCarry good origins l (both world l))
      → (l : BridgeLane) → AllCarry good origins l (both (at_place board on by o step place world) l)
  place_carries board origins on by o step (Target target) world old = old
  place_carries board origins on by o step (Header bus) world old = old
  place_carries board origins on by o step (Lane lane) world old =
      let new = enters_carries board origins on by o step lane (both world lane) (both_ways origins world lane old) in
      moved_keeps (AllCarry good origins) (enters board on by o step) lane world old new.0 new.1
  place_carries board origins on by o step Nobody world old = old

  -- who stands first of an operation is the same where the event was claimed
  is_done_other : (number : ℕ) (o : OpId) (item : Carried) → is_done_for number item ≡ true → is_of o item ≡ false
  is_done_other number o (Post q) is = cc
  is_done_other number o (Ask q slot) is = cc
  is_done_other number o (Done q slot outcome) is = refl
  is_done_other number o Room is = cc
  is_done_other number o (Gone slot) is = cc

  abbrev SameFound : OpId → Both → Both → Type 0
  SameFound o x y = (find (is_of o) y.here.standing ≡ find (is_of o) x.here.standing) × (find (is_of o) y.back.standing ≡ find (is_of o) x.back.standing)

  slot_found_same : (o : OpId) (own : Option Slot) (x : Both) → SameFound o x (slot_found own x)
  slot_found_same o None x = (refl, refl)
  slot_found_same o (Some slot) x = (refl, find-less_other (is_done_for slot.number) (is_of o) (is_done_other slot.number o) x.back.standing)

  enters_found : (board : Board) (on : ℕ) (by : By) (p o : OpId) (step : Step) (x : Both) → SameFound o x (enters board on by p step x)
  enters_found board on by p o Land x = (refl, refl)
  enters_found board on by p o (Part phases) x = (refl, refl)
  enters_found board on by p o (Read value) x = (refl, refl)
  enters_found board on by p o Accept x = (refl, refl)
  enters_found board on by p o Latch x = (refl, refl)
  enters_found board on by p o (Take outcome) x = slot_found_same o (find (is_own board on by p) x.here.held) x
  enters_found board on by p o Stall x = (refl, refl)
  enters_found board on by p o MasterAbort x = (refl, refl)
  enters_found board on by p o TargetAbort x = (refl, refl)

  place_found : (board : Board) (on : ℕ) (by : By) (p o : OpId) (step : Step) (place : Place) (world : World) (k : BridgeLane) → find (is_of o) (at_place board on by p step place world k).standing ≡ find (is_of o) (world k).standing
  place_found board on by p o step (Target target) world k = refl
  place_found board on by p o step (Header bus) world k = refl
  place_found board on by p o step (Lane lane) world k =
      let x : Both = both world lane in
      let y : Both = enters board on by p step x in
      let found = enters_found board on by p o step x in
      let Q : Bool → Type 0 = λ b. same_lane k (lane_back lane) ≡ b → find (is_of o) (cond b y.back (world k)).standing ≡ find (is_of o) (world k).standing in
      let P : Bool → Type 0 = λ b. same_lane k lane ≡ b → find (is_of o) (cond b y.here (cond (same_lane k (lane_back lane)) y.back (world k))).standing ≡ find (is_of o) (world k).standing in
      let F : BridgeLane → Type 0 = λ l. find (is_of o) y.here.standing ≡ find (is_of o) (world l).standing in
      let G : BridgeLane → Type 0 = λ l. find (is_of o) y.back.standing ≡ find (is_of o) (world l).standing in
      (elim (same_lane k lane) as P [
        | true ↦ λ same. subst F (sym (same_lane_true k lane same)) found.0
        | false ↦ λ _. (elim (same_lane k (lane_back lane)) as Q [ true ↦ λ same. subst G (sym (same_lane_true k (lane_back lane) same)) found.1 | false ↦ λ _. refl ]) refl
      ]) refl
  place_found board on by p o step Nobody world k = refl

  -- At the initiator.

  -- where a request of a number stands no completion of it is about
  none_about : (x : Both) (test : Carried → Bool) (p : OpId) (number : ℕ) → Slots x → find test x.here.standing ≡ Some (Ask p number)
      → (total (done_weight (hit number)) x.back.flight ≡ 0) × (total (done_weight (hit number)) x.back.standing ≡ 0)
  none_about x test p number slots found =
      let W : Carried → Type 0 = λ item. (weight : Carried → ℕ) → weight item ≤ total weight x.here.standing in
      let weighs : 1 ≤ total (ask_weight (hit number)) x.here.standing = omega (arith, Each-find W test x.here.standing (Ask p number) (Each-within x.here.standing) found (ask_weight (hit number)), hit-same number) in
      (omega (arith, slots.one_place (hit number), slots.once number, weighs), omega (arith, slots.one_place (hit number), slots.once number, weighs))

  module _ (board : Board) (h : List Event) (world : World) (origins : Origins) (on : ℕ) (k : BridgeLane) (o : OpId) (step : Step) (place : Place) where
    -- the origins after the act
    abbrev New : Origins
    New = origin_by board h world origins on (ByLane k) o step place

    new_other : (l : BridgeLane) (number : ℕ) → same_lane k l ≡ false → New l number ≡ origins l number
    new_other l number other = rw other refl

    carries_other : (l : BridgeLane) (item : Carried) → same_lane k l ≡ false → Carries good (origins l) item → Carries good (New l) item
    carries_other l (Post op) other old = tt
    carries_other l (Ask op slot) other old = tt
    carries_other l (Done op slot outcome) other old = λ reading is. old reading (sym (new_other l slot other) ∙ is)
    carries_other l Room other old = tt
    carries_other l (Gone slot) other old = tt

    each_other : (l : BridgeLane) (items : List Carried) → same_lane k l ≡ false → AllByRecursion (Carries good (origins l)) items → AllByRecursion (Carries good (New l)) items
    each_other l [] other each = tt
    each_other l (item ∷ items) other each = (carries_other l item other each.0, each_other l items other each.1)

    -- on the lane itself: a completion of another number
    carries_unasked : (item : Carried) → ((number : ℕ) → answers board world k o step number ≡ false) → Carries good (origins k) item → Carries good (New k) item
    carries_unasked (Post op) none old = tt
    carries_unasked (Ask op slot) none old = tt
    carries_unasked (Done op slot outcome) none old = λ reading is. (
        let not_it = none slot in
        let P : Bool → Type 0 = λ b. New k slot ≡ cond (b && answers board world k o step slot) (source_of board h world origins on o step place) (origins k slot) in
        let same : New k slot ≡ origins k slot = (let Q : Bool → Type 0 = λ b. cond (b && answers board world k o step slot) (source_of board h world origins on o step place) (origins k slot) ≡ origins k slot in elim (same_lane k k) as Q [ true ↦ rw not_it refl | false ↦ refl ]) in
        old reading (sym same ∙ is))
    carries_unasked Room none old = tt
    carries_unasked (Gone slot) none old = tt

    each_unasked : (items : List Carried) → ((number : ℕ) → answers board world k o step number ≡ false) → AllByRecursion (Carries good (origins k)) items → AllByRecursion (Carries good (New k)) items
    each_unasked [] none each = tt
    each_unasked (item ∷ items) none each = (carries_unasked item none each.0, each_unasked items none each.1)

    -- a number that is asked by nothing else
    asks_one : (p : OpId) (number other : ℕ) → find (is_of o) (world k).standing ≡ Some (Ask p number) → answers board world k o step other ≡ true → number ≡ other
    asks_one p number other found is =
        let F : Option Carried → Type 0 = λ item. (ends_item (lane_outcome board k o step) && asks_for other item) ≡ true in
        let there : (ends_item (lane_outcome board k o step) && (number == other)) ≡ true = subst F found is in
        let P : Bool → Type 0 = λ b. (b && (number == other)) ≡ true → number ≡ other in
        (elim (ends_item (lane_outcome board k o step)) as P [ true ↦ λ e. eqb-true number other e | false ↦ λ e. cc ]) there

    carries_asked : (p : OpId) (number : ℕ) (item : Carried) → find (is_of o) (world k).standing ≡ Some (Ask p number) → done_weight (hit number) item ≡ 0 → Carries good (origins k) item → Carries good (New k) item
    carries_asked p number (Post op) found weighs old = tt
    carries_asked p number (Ask op slot) found weighs old = tt
    carries_asked p number (Done op slot outcome) found weighs old = λ reading is. (
        let Q : Bool → Type 0 = λ b. answers board world k o step slot ≡ b → answers board world k o step slot ≡ false in
        let not_it : answers board world k o step slot ≡ false = (elim (answers board world k o step slot) as Q [
          | true ↦ λ yes_it. let one = asks_one p number slot found yes_it in absurd (omega (arith, hit-same number, ap (hit number) one, weighs))
          | false ↦ λ no_it. no_it
        ]) refl in
        let R : Bool → Type 0 = λ b. cond (b && answers board world k o step slot) (source_of board h world origins on o step place) (origins k slot) ≡ origins k slot in
        let same : New k slot ≡ origins k slot = elim (same_lane k k) as R [ true ↦ rw not_it refl | false ↦ refl ] in
        old reading (sym same ∙ is))
    carries_asked p number Room found weighs old = tt
    carries_asked p number (Gone slot) found weighs old = tt

    -- nothing of a number is asked
    unasked : (found : Option Carried) (number : ℕ) → find (is_of o) (world k).standing ≡ found → asks_for number found ≡ false → answers board world k o step number ≡ false
    unasked found number is none =
        let F : Option Carried → Type 0 = λ item. (ends_item (lane_outcome board k o step) && asks_for number item) ≡ false in
        let P : Bool → Type 0 = λ b. (b && asks_for number found) ≡ false in
        let there : F found = elim (ends_item (lane_outcome board k o step)) as P [ true ↦ none | false ↦ refl ] in
        subst F (sym is) there

    not_ended : (number : ℕ) → lane_outcome board k o step ≡ None → answers board world k o step number ≡ false
    not_ended number none = rw none refl

    Each-asked : (p : OpId) (number : ℕ) (items : List Carried) → find (is_of o) (world k).standing ≡ Some (Ask p number) → total (done_weight (hit number)) items ≡ 0 → AllByRecursion (Carries good (origins k)) items → AllByRecursion (Carries good (New k)) items
    Each-asked p number items found weighs each = Each-weaker_zero (Carries good (origins k)) (Carries good (New k)) (done_weight (hit number)) (λ item zero_it old. carries_asked p number item found zero_it old) items weighs each

    -- the completion that goes back
    new_done : (p : OpId) (number : ℕ) (outcome : Outcome) → find (is_of o) (world k).standing ≡ Some (Ask p number) → lane_outcome board k o step ≡ Some outcome
        → ((reading : Reading) → source_of board h world origins on o step place ≡ Some reading → good p outcome reading) → Carries good (New k) (Done p number outcome)
    new_done p number outcome found ends value = λ reading is. (
        let self : same_lane k k ≡ true = same_lane_self k in
        let one : eqb number number ≡ true = grind (arith, nat_tests) in
        let F : Option Carried → Type 0 = λ item. (ends_item (lane_outcome board k o step) && asks_for number item) ≡ true in
        let G : Option Outcome → Type 0 = λ given. (ends_item given && asks_for number (Some (Ask p number))) ≡ true in
        let there : G (Some outcome) = one in
        let asked_it : answers board world k o step number ≡ true = subst F (sym found) (subst G (sym ends) there) in
        let same : New k number ≡ source_of board h world origins on o step place = rw (self, asked_it) refl in
        value reading (sym same ∙ is))

  -- after an act of a lane
  module _ (board : Board) (h : List Event) (on : ℕ) (k : BridgeLane) (o : OpId) (step : Step) (place : Place) (run : UntaggedRun board h) (allowed : UntaggedAllowed board h (Act on (ByLane k) o step place))
      (carry : (l : BridgeLane) → AllCarry good (origins_of board h) l (both (world_by Untagged board h) l))
      (makes : (outcome : Outcome) → lane_outcome board k o step ≡ Some outcome → (reading : Reading) → source_of board h (world_by Untagged board h) (origins_of board h) on o step place ≡ Some reading → good o outcome reading) where
    abbrev Before : World
    Before = world_by Untagged board h

    abbrev Placed : World
    Placed = at_place board on anyone o step place (world_by Untagged board h)

    abbrev Now : Origins
    Now = origin_by board h (world_by Untagged board h) (origins_of board h) on (ByLane k) o step place

    placed_carry : (l : BridgeLane) → AllCarry good (origins_of board h) l (both Placed l)
    placed_carry = place_carries board (origins_of board h) on anyone o step place (world_by Untagged board h) carry

    placed_slots : (l : BridgeLane) → Slots (both Placed l)
    placed_slots =
        place_keeps Untagged board (λ lane x. Slots x) (Slots-kept Untagged board) h on (ByLane k) o step place run allowed.0 allowed.1 (λ l. Slots-run_by Untagged board h l run)

    other_carry : (l : BridgeLane) → same_lane l k ≡ false → AllCarry good Now l (both Placed l)
    other_carry l other =
        let turned : same_lane k l ≡ false = same_lane_symm k l ∙ other in
        let old = placed_carry l in (
          each_other board h Before (origins_of board h) on k o step place l (both Placed l).back.flight turned old.0,
          each_other board h Before (origins_of board h) on k o step place l (both Placed l).back.standing turned old.1,
        )

    found_before : find (is_of o) (Placed k).standing ≡ find (is_of o) (Before k).standing
    found_before = place_found board on anyone o o step place (world_by Untagged board h) k

    unasked_carry : ((number : ℕ) → answers board Before k o step number ≡ false) → AllCarry good Now k (both Placed k)
    unasked_carry none =
        let old = placed_carry k in (
          each_unasked board h Before (origins_of board h) on k o step place (both Placed k).back.flight none old.0,
          each_unasked board h Before (origins_of board h) on k o step place (both Placed k).back.standing none old.1,
        )

    -- the completion of the item that ends, on the lane back
    reply_carries : (outcome : Outcome) (found : Option Carried) → lane_outcome board k o step ≡ Some outcome → find (is_of o) (Placed k).standing ≡ found
        → AllByRecursion (Carries good (Now k)) ((both Placed k).back.flight ++ reply_to outcome found) × AllByRecursion (Carries good (Now k)) (both Placed k).back.standing
    reply_carries outcome None ends found =
        let old = unasked_carry (λ number. unasked board h Before (origins_of board h) on k o step place None number (sym found_before ∙ found) refl) in
        (Each-append (Carries good (Now k)) (both Placed k).back.flight [] old.0 tt, old.1)
    reply_carries outcome (Some (Post q)) ends found =
        let old = unasked_carry (λ number. unasked board h Before (origins_of board h) on k o step place (Some (Post q)) number (sym found_before ∙ found) refl) in
        (Each-append (Carries good (Now k)) (both Placed k).back.flight (Room ∷ []) old.0 (tt, tt), old.1)
    reply_carries outcome (Some (Ask q number)) ends found =
        let before : find (is_of o) (Before k).standing ≡ Some (Ask q number) = sym found_before ∙ found in
        let old = placed_carry k in
        let none = none_about (both Placed k) (is_of o) q number (placed_slots k) found in
        let same : o ≡ q = same_op_true o q (find_passes (is_of o) (Placed k).standing (Ask q number) found) in
        let value : (reading : Reading) → source_of board h Before (origins_of board h) on o step place ≡ Some reading → good q outcome reading = λ reading is.
        subst (λ p. good p outcome reading) same (makes outcome ends reading is) in
        let new : Carries good (Now k) (Done q number outcome) = new_done board h Before (origins_of board h) on k o step place q number outcome before ends value in (
          Each-push (Carries good (Now k)) (both Placed k).back.flight (Done q number outcome) (Each-asked board h Before (origins_of board h) on k o step place q number (both Placed k).back.flight before none.0 old.0) new,
          Each-asked board h Before (origins_of board h) on k o step place q number (both Placed k).back.standing before none.1 old.1,
        )
    reply_carries outcome (Some (Done q slot given)) ends found = let e : false ≡ true = find_passes (is_of o) (Placed k).standing (Done q slot given) found in cc
    reply_carries outcome (Some Room) ends found = let e : false ≡ true = find_passes (is_of o) (Placed k).standing Room found in cc
    reply_carries outcome (Some (Gone slot)) ends found = let e : false ≡ true = find_passes (is_of o) (Placed k).standing (Gone slot) found in cc

    ended_carries : (outcome : Option Outcome) → lane_outcome board k o step ≡ outcome → (l : BridgeLane) → AllCarry good Now l (both (leaves k o outcome Placed) l)
    ended_carries None ends l =
        let P : Bool → Type 0 = λ b. same_lane l k ≡ b → AllCarry good Now l (both Placed l) in
        let here : AllCarry good Now k (both Placed k) = unasked_carry (λ number. not_ended board h Before (origins_of board h) on k o step place number ends) in
        let F : BridgeLane → Type 0 = λ m. AllCarry good Now m (both Placed m) in
        (elim (same_lane l k) as P [ true ↦ λ same. subst F (sym (same_lane_true l k same)) here | false ↦ λ other. other_carry l other ]) refl
    ended_carries (Some outcome) ends l =
        let x : Both = both Placed k in
        let here : AllCarry good Now k (item_ends o outcome x) = reply_carries outcome (find (is_of o) x.here.standing) ends refl in
        let turned : same_lane k (lane_back k) ≡ false = same_lane_symm k (lane_back k) ∙ same_lane_back k in
        let old = (both_ways (origins_of board h) Placed k placed_carry).1 in
        let back : AllCarry good Now (lane_back k) (flip (item_ends o outcome x)) = (
          each_other board h Before (origins_of board h) on k o step place (lane_back k) x.here.flight turned old.0,
          each_other board h Before (origins_of board h) on k o step place (lane_back k) (less (is_of o) x.here.standing) turned (Each-less (Carries good (origins_of board h (lane_back k))) (is_of o) x.here.standing old.1),
        ) in
        moved_gives (AllCarry good Now) (item_ends o outcome) k Placed other_carry here back l

  -- after an arrival
  effect_carries : (origins : Origins) (lane : BridgeLane) (effect : Effect) (item : Carried) (x : Both) → Carries good (origins (lane_back lane)) item → AllCarry good origins lane x × AllCarry good origins (lane_back lane) (flip x)
      → AllCarry good origins lane (takes_effect effect item x) × AllCarry good origins (lane_back lane) (flip (takes_effect effect item x))
  effect_carries origins lane Stands item x has old = (old.0, (old.1.0, Each-push (Carries good (origins (lane_back lane))) x.here.standing item old.1.1 has))
  effect_carries origins lane Credits item x has old = old
  effect_carries origins lane (Frees slot) item x has old = old
  effect_carries origins lane (Drops slot) item x has old = ((Each-push (Carries good (origins lane)) x.back.flight (Gone slot) old.0.0 tt, old.0.1), old.1)

  first_carries : (origins : Origins) (lane : BridgeLane) (mark : Mark) (flight : List Carried) (x : Both) → AllByRecursion (Carries good (origins (lane_back lane))) flight → AllCarry good origins lane x × AllCarry good origins (lane_back lane) (flip x)
      → AllCarry good origins lane (arrives_first mark flight x) × AllCarry good origins (lane_back lane) (flip (arrives_first mark flight x))
  first_carries origins lane mark [] x flying old = old
  first_carries origins lane mark (item ∷ rest) x flying old =
      effect_carries origins lane (effect_of mark item) item (record x { here = came_off item rest x.here }) flying.0 (old.0, (flying.1, old.1.1))

  -- after an event: where what was on the lanes is good, and what an act of a lane makes
  abbrev pub Makes : Board → List Event → Event → Type 0
  Makes board h (Act on Master o step place) = Unit {0}
  Makes board h (Act on (ByLane k) o step place) = (outcome : Outcome) → lane_outcome board k o step ≡ Some outcome → (reading : Reading) → source_of board h (world_by Untagged board h) (origins_of board h) on o step place ≡ Some reading → good o outcome reading
  Makes board h (Arrive lane mark) = Unit {0}

  pub event_carries : (board : Board) (e : Event) (h : List Event) → UntaggedRun board h → UntaggedAllowed board h e → Makes board h e → ((l : BridgeLane) → AllCarry good (origins_of board h) l (both (world_by Untagged board h) l))
      → (l : BridgeLane) → AllCarry good (origins_of board (e ∷ h)) l (both (world_by Untagged board (e ∷ h)) l)
  event_carries board (Act on Master o step place) h run allowed makes old = place_carries board (origins_of board h) on anyone o step place (world_by Untagged board h) old
  event_carries board (Act on (ByLane k) o step place) h run allowed makes old = ended_carries board h on k o step place run allowed old makes (lane_outcome board k o step) refl
  event_carries board (Arrive lane mark) h run allowed makes old =
      let world : World = world_by Untagged board h in
      let origins : Origins = origins_of board h in
      let both_old = both_ways origins world lane old in
      let new = first_carries origins lane mark (both world lane).here.flight (both world lane) both_old.1.0 both_old in
      moved_keeps (AllCarry good origins) (arrives mark) lane world old new.0 new.1
