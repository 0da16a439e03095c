-- Where the items of slots are after a completion was given, and after a slot was freed.
use Rattle.std.proofs.Common.{◌≡◌, ℕ, ◌+◌, ◌≤◌, Bool, true, false, eqb, List, Option, Some, None, refl, ap, arith}
use Rattle.std.specs.List.{find, AllByRecursion}
use Rattle.std.proofs.lemmas.Bool.{eqb-true}
use Rattle.list_facts.specs.Lists.{less, total}
use Rattle.list_facts.proofs.TotalLemmas.{found, total-less}
use Rattle.list_facts.proofs.FindLemmas.{find_passes}
use Rattle.list_facts.proofs.EachLemmas.{Each-less, Each-weaker_zero}
use Rattle.pci_command.specs.declared.op_id.OpId.{OpId}
use Rattle.pci_command.specs.declared.op_id.Outcome.{Outcome}
use Rattle.history_model.specs.declared.item.Carried.{Carried}
use Rattle.history_model.specs.declared.item.Carried.TheVariants.{Post, Ask, Done, Room, Gone}
use Rattle.history_model.specs.declared.item.Slot.{Slot}
use Rattle.history_model.specs.Lanes.{Both, has_number, is_done_for, slot_taken}
use Rattle.law_lanes.specs.Slots.{hit, slot_weight, ask_weight, done_weight, places, AskNamed, DoneNamed, Slots}
use Rattle.history_model.proofs.facts.BridgeLemmas.{flip}
use Rattle.law_lanes.proofs.HeldLemmas.{hit-same, found_by_number, AskNamed-less, DoneNamed-less}

-- the same as of slots in a run, where one item is missing, of the slot of this number
pub record SlotsBut (missing : ℕ) (x : Both) : Type 0 where
  pub one_place : (weight : ℕ → ℕ) → places weight x + weight missing ≡ total (slot_weight weight) x.here.held
  pub once : (number : ℕ) → total (slot_weight (hit number)) x.here.held ≤ 1
  pub asks_flying : AllByRecursion (AskNamed x.here.held) x.here.flight
  pub asks_standing : AllByRecursion (AskNamed x.here.held) x.here.standing
  pub dones_flying : AllByRecursion (DoneNamed x.here.held) x.back.flight
  pub dones_standing : AllByRecursion (DoneNamed x.here.held) x.back.standing

-- a number is free at the near face of a lane
abbrev pub freed : ℕ → Both → Both
freed number x = record x { here = record (x.here) { held = less (has_number number) x.here.held } }

-- that slot is freed, and no other item names it
pub Slots-freed : (number : ℕ) (x : Both) → SlotsBut number x → Slots (freed number x)
Slots-freed number x but =
    let held : List Slot = x.here.held in
    let left : List Slot = less (has_number number) held in
    let same : hit number number ≡ 1 = hit-same number in
    let some : 1 ≤ total (slot_weight (hit number)) held = omega (arith, but.one_place (hit number)) in
    let none : places (hit number) x ≡ 0 = omega (arith, but.one_place (hit number), but.once number) in
    let kept : (item : Carried) → ask_weight (hit number) item ≡ 0 → AskNamed held item → AskNamed left item = AskNamed-less held number in
    let kept_done : (item : Carried) → done_weight (hit number) item ≡ 0 → DoneNamed held item → DoneNamed left item = DoneNamed-less held number in
    let fewer = λ (items : List Carried) (zero : total (ask_weight (hit number)) items ≡ 0) (each : AllByRecursion (AskNamed held) items).
    Each-weaker_zero (AskNamed held) (AskNamed left) (ask_weight (hit number)) kept items zero each in
    let fewer_done = λ (items : List Carried) (zero : total (done_weight (hit number)) items ≡ 0) (each : AllByRecursion (DoneNamed held) items).
    Each-weaker_zero (DoneNamed held) (DoneNamed left) (done_weight (hit number)) kept_done items zero each in
    record {
      one_place = λ weight. omega (arith, but.one_place weight, total-less (slot_weight weight) (has_number number) held, found_by_number number held some weight);
      once = λ other. omega (arith, but.once other, total-less (slot_weight (hit other)) (has_number number) held);
      asks_flying = fewer x.here.flight (omega arith) but.asks_flying;
      asks_standing = fewer x.here.standing (omega arith) but.asks_standing;
      dones_flying = fewer_done x.back.flight (omega arith) but.dones_flying;
      dones_standing = fewer_done x.back.standing (omega arith) but.dones_standing;
    }

-- a completion that is found for a number weighs that number, and is no request
done_for_weight : (number : ℕ) (standing : List Carried) (op : OpId) (slot : ℕ) (outcome : Outcome) → find (is_done_for number) standing ≡ Some (Done op slot outcome)
    → (weight : ℕ → ℕ) → found (done_weight weight) (find (is_done_for number) standing) ≡ weight number
done_for_weight number standing op slot outcome some weight =
    let same : eqb slot number ≡ true = find_passes (is_done_for number) standing (Done op slot outcome) some in
    rw some (ap weight (eqb-true slot number same))

done_for_ask_weight : (number : ℕ) (item : Option Carried) (weight : ℕ → ℕ) → ((y : Carried) → item ≡ Some y → is_done_for number y ≡ true) → found (ask_weight weight) item ≡ 0
done_for_ask_weight number None weight passes = refl
done_for_ask_weight number (Some (Post op)) weight passes = refl
done_for_ask_weight number (Some (Ask op slot)) weight passes = let e : false ≡ true = passes (Ask op slot) refl in cc
done_for_ask_weight number (Some (Done op slot outcome)) weight passes = refl
done_for_ask_weight number (Some Room) weight passes = refl
done_for_ask_weight number (Some (Gone slot)) weight passes = refl

pub Slots-slot_taken : (number : ℕ) (op : OpId) (slot : ℕ) (outcome : Outcome) (x : Both) → find (is_done_for number) x.back.standing ≡ Some (Done op slot outcome) → Slots x → Slots (slot_taken number x)
Slots-slot_taken number op slot outcome x stands old =
    let test : Carried → Bool = is_done_for number in
    let y : Both = record x { back = record (x.back) { standing = less test x.back.standing } } in
    let but : SlotsBut number y = record {
      one_place = λ weight. omega (arith, old.one_place weight, total-less (done_weight weight) test x.back.standing, done_for_weight number x.back.standing op slot outcome stands weight);
      once = old.once;
      asks_flying = old.asks_flying;
      asks_standing = old.asks_standing;
      dones_flying = old.dones_flying;
      dones_standing = Each-less (DoneNamed x.here.held) test x.back.standing old.dones_standing;
    } in
    Slots-freed number y but

pub Slots-slot_taken_back : (number : ℕ) (x : Both) → Slots (flip x) → Slots (flip (slot_taken number x))
Slots-slot_taken_back number x old =
    let test : Carried → Bool = is_done_for number in
    record {
      one_place = λ weight.
          omega (
            arith,
            old.one_place weight,
            total-less (ask_weight weight) test x.back.standing,
            done_for_ask_weight number (find test x.back.standing) weight (λ y some. find_passes test x.back.standing y some),
          );
      once = old.once;
      asks_flying = old.asks_flying;
      asks_standing = Each-less (AskNamed x.back.held) test x.back.standing old.asks_standing;
      dones_flying = old.dones_flying;
      dones_standing = old.dones_standing;
    }
