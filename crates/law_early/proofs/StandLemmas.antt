-- What is presented stands, and stands there still as its act is done; it is presented where more stands behind it.
use Rattle.std.proofs.Common.{◌≡◌, ℕ, true, false, ◌==◌, List, Option, Some, None, refl, ap, ◌∙◌, ◌≤◌, Bool, cond, nat_lt, ◌++◌, arith}
use Rattle.std.specs.List.{find}
use Rattle.std.proofs.lemmas.Bool.{and_parts}
use Rattle.list_facts.specs.Lists.{before, less}
use Rattle.list_facts.proofs.FindLemmas.{find-less_other, find-append_found}
use Rattle.pci_command.specs.declared.op_id.OpId.{OpId}
use Rattle.board_model.specs.declared.bridge.Lane.{Lane as BridgeLane}
use Rattle.board_model.specs.declared.bridge.Place.{Place}
use Rattle.board_model.specs.declared.bridge.Place.TheVariants.{Target, Header, Lane, Nobody}
use Rattle.board_model.specs.declared.board.Board.{Board}
use Rattle.board_model.specs.Ways.{end_of}
use Rattle.history_model.specs.declared.event.By.{By}
use Rattle.history_model.specs.declared.event.By.TheVariants.{Lane as ByLane}
use Rattle.history_model.specs.declared.event.Step.{Step}
use Rattle.history_model.specs.declared.event.Step.TheVariants.{Land, Part, Read, Accept, Latch, Take, Stall, MasterAbort, TargetAbort}
use Rattle.history_model.specs.declared.event.Event.{Event}
use Rattle.history_model.specs.declared.item.Carried.{Carried}
use Rattle.history_model.specs.declared.item.Carried.TheVariants.{Post, Ask, Done, Room, Gone}
use Rattle.history_model.specs.declared.item.Slot.{Slot}
use Rattle.history_model.specs.declared.item.Answer.TheVariants.{Gives, Retry}
use Rattle.history_model.specs.declared.rule.Rule.{Rule}
use Rattle.history_model.specs.Lanes.{Both, is_of, is_done_for}
use Rattle.history_model.specs.World.{World, both, is_own, slot_found, enters, at_place}
use Rattle.history_model.specs.Answers.{presents_item_by, presents_by, wants_in_by, posted_answer}
use Rattle.history_model.proofs.facts.MovedLemmas.{moved_each}
use Rattle.std.proofs.lemmas.Bool.Decides.{nat_tests}
use Rattle.history_model.specs.declared.item.Cause.TheVariants.{Full}
use Rattle.law_early.proofs.ListLemmas.{before-append_found}

-- it is found
pub record Finds (test : Carried → Bool) (xs : List Carried) : Type 0 where
  pub item : Carried
  pub is : find test xs ≡ Some item

-- A lane presents what stands.

item_finds : (rule : Rule) (board : Board) (on : ℕ) (older standing : List Carried) (o : OpId) (found : Option Carried) → find (is_of o) standing ≡ found → presents_item_by rule board on older found ≡ true → Finds (is_of o) standing
item_finds rule board on older standing o None is presented = cc
item_finds rule board on older standing o (Some item) is presented = record { item = item; is = is }

pub wants_finds : (rule : Rule) (board : Board) (world : World) (h : List Event) (on : ℕ) (lane : BridgeLane) (o : OpId) → wants_in_by rule board world h on (ByLane lane) o ≡ true → Finds (is_of o) (world lane).standing
wants_finds rule board world h on lane o wanted =
    let presented = (and_parts (end_of board lane == on) (presents_by rule board on o (world lane).standing) wanted).1 in
    item_finds rule board on (before (is_of o) (world lane).standing) (world lane).standing o (find (is_of o) (world lane).standing) refl presented

-- At the place that claims.

done_apart : (number : ℕ) (o : OpId) (item : Carried) → is_done_for number item ≡ true → is_of o item ≡ false
done_apart number o (Post op) is = cc
done_apart number o (Ask op slot) is = cc
done_apart number o (Done op slot outcome) is = refl
done_apart number o Room is = cc
done_apart number o (Gone slot) is = cc

-- what stands of an operation is found as before
abbrev StillThere : OpId → Both → Both → Type 0
StillThere p x z = (find (is_of p) z.here.standing ≡ find (is_of p) x.here.standing) × (find (is_of p) z.back.standing ≡ find (is_of p) x.back.standing)

slot_there : (p : OpId) (own : Option Slot) (x : Both) → StillThere p x (slot_found own x)
slot_there p None x = (refl, refl)
slot_there p (Some slot) x = (refl, find-less_other (is_done_for slot.number) (is_of p) (done_apart slot.number p) x.back.standing)

enters_there : (board : Board) (on : ℕ) (by : By) (o p : OpId) (step : Step) (x : Both) → StillThere p x (enters board on by o step x)
enters_there board on by o p Land x = (refl, refl)
enters_there board on by o p (Part phases) x = (refl, refl)
enters_there board on by o p (Read value) x = (refl, refl)
enters_there board on by o p Accept x = (refl, refl)
enters_there board on by o p Latch x = (refl, refl)
enters_there board on by o p (Take outcome) x = slot_there p (find (is_own board on by o) x.here.held) x
enters_there board on by o p Stall x = (refl, refl)
enters_there board on by o p MasterAbort x = (refl, refl)
enters_there board on by o p TargetAbort x = (refl, refl)

place_there : (board : Board) (on : ℕ) (by : By) (o p : OpId) (step : Step) (place : Place) (world : World) (l : BridgeLane) → find (is_of p) (at_place board on by o step place world l).standing ≡ find (is_of p) (world l).standing
place_there board on by o p step (Target target) world l = refl
place_there board on by o p step (Header bus) world l = refl
place_there board on by o p step (Lane lane) world l =
    let there = enters_there board on by o p step (both world lane) in
    moved_each (λ k s. find (is_of p) s.standing ≡ find (is_of p) (world k).standing) (enters board on by o step) lane world (λ k _ _. refl) there.0 there.1 l
place_there board on by o p step Nobody world l = refl

-- what is found of an operation is found after an act, until it ends
pub still_finds : (board : Board) (on : ℕ) (by : By) (o p : OpId) (step : Step) (place : Place) (world : World) (l : BridgeLane) → Finds (is_of p) (world l).standing → Finds (is_of p) (at_place board on by o step place world l).standing
still_finds board on by o p step place world l finds = record { item = finds.item; is = place_there board on by o p step place world l ∙ finds.is }

-- it is presented before what stands behind it
pub item_more : (rule : Rule) (board : Board) (on : ℕ) (o : OpId) (standing later more : List Carried) (found : Option Carried) → later ≡ standing ++ more → find (is_of o) standing ≡ found
    → presents_item_by rule board on (before (is_of o) standing) found ≡ true → presents_by rule board on o later ≡ true
item_more rule board on o standing later more None is_later is presented = cc
item_more rule board on o standing later more (Some item) is_later is presented =
    let P : List Carried → Option Carried → Bool = presents_item_by rule board on in
    ap (presents_by rule board on o) is_later
    ∙ (ap (λ older. P older (find (is_of o) (standing ++ more))) (before-append_found (is_of o) standing more item is)
    ∙ (ap (P (before (is_of o) standing)) (find-append_found (is_of o) standing more item is) ∙ presented))

-- where less is owed, a posted write is accepted as before
pub posted_more : (owed less depth : ℕ) (lane : BridgeLane) (step : Step) (place : Place) → less ≤ owed → posted_answer owed depth lane ≡ Gives step place → posted_answer less depth lane ≡ Gives step place
posted_more owed less depth lane step place fewer gives =
    let P : Bool → Type 0 = λ b. nat_lt owed depth ≡ b → cond b (Gives Accept (Lane lane)) (Retry Full) ≡ Gives step place → posted_answer less depth lane ≡ Gives step place in
    (elim (nat_lt owed depth) as P [
      | true ↦ λ below e. let under : nat_lt less depth ≡ true = grind (arith, nat_tests) in ap (λ b. cond b (Gives Accept (Lane lane)) (Retry Full)) under ∙ e
      | false ↦ λ _ e. cc
    ]) refl gives
