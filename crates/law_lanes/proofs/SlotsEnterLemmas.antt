-- Where the items of slots are after a posted write or a delayed request entered a lane.
use Rattle.std.proofs.Common.{◌≡◌, ℕ, ◌+◌, ◌≤◌, Bool, true, false, cond, eqb, List, [], ◌∷◌, ◌++◌, refl, subst, arith}
use Rattle.std.specs.List.{AllByRecursion}
use Rattle.std.proofs.lemmas.Bool.{eqb-true}
use Rattle.list_facts.specs.Lists.{total}
use Rattle.list_facts.proofs.TotalLemmas.{total-push}
use Rattle.list_facts.proofs.EachLemmas.{Each-push, Each-weaker}
use Rattle.pci_command.specs.declared.op_id.OpId.{OpId}
use Rattle.history_model.specs.declared.event.By.{By}
use Rattle.history_model.specs.declared.item.Carried.{Carried}
use Rattle.history_model.specs.declared.item.Carried.TheVariants.{Post, Ask}
use Rattle.history_model.specs.declared.item.Slot.{Slot}
use Rattle.history_model.specs.Lanes.{Both, lowest_free, post_enters, ask_enters}
use Rattle.law_lanes.specs.Slots.{hit, slot_weight, ask_weight, done_weight, gone_weight, AskNamed, DoneNamed, Slots}
use Rattle.history_model.proofs.facts.BridgeLemmas.{flip}
use Rattle.law_lanes.proofs.HeldLemmas.{none_by_number, IsHeldFor-new, AskNamed-push, DoneNamed-push}
use Rattle.law_lanes.proofs.LowestFreeLemmas.{lowest_free-free}

pub Slots-post_enters : (o : OpId) (x : Both) → Slots x → Slots (post_enters o x)
Slots-post_enters o x old =
    record {
      one_place = λ weight. omega (arith, old.one_place weight, total-push (ask_weight weight) x.here.flight (Post o));
      once = old.once;
      asks_flying = Each-push (AskNamed x.here.held) x.here.flight (Post o) old.asks_flying tt;
      asks_standing = old.asks_standing;
      dones_flying = old.dones_flying;
      dones_standing = old.dones_standing;
    }

pub Slots-post_enters_back : (o : OpId) (x : Both) → Slots (flip x) → Slots (flip (post_enters o x))
Slots-post_enters_back o x old =
    record {
      one_place = λ weight. omega (arith, old.one_place weight, total-push (done_weight weight) x.here.flight (Post o), total-push (gone_weight weight) x.here.flight (Post o));
      once = old.once;
      asks_flying = old.asks_flying;
      asks_standing = old.asks_standing;
      dones_flying = Each-push (DoneNamed x.back.held) x.here.flight (Post o) old.dones_flying tt;
      dones_standing = old.dones_standing;
    }

-- one more slot, of a free number, is held once
once-push : (held : List Slot) (slot : Slot) → ((number : ℕ) → total (slot_weight (hit number)) held ≤ 1) → total (slot_weight (hit slot.number)) held ≡ 0
    → (number : ℕ) → total (slot_weight (hit number)) (held ++ slot ∷ []) ≤ 1
once-push held slot once free number =
    let sum : total (slot_weight (hit number)) (held ++ slot ∷ []) ≡ total (slot_weight (hit number)) held + hit number slot.number = total-push (slot_weight (hit number)) held slot in
    let P : Bool → Type 0 = λ b. eqb slot.number number ≡ b → total (slot_weight (hit number)) held + cond b 1 0 ≤ 1 in
    let at : total (slot_weight (hit number)) held + hit number slot.number ≤ 1 = (elim (eqb slot.number number) as P [
      | true ↦ λ same.
          let F : ℕ → Type 0 = λ n. total (slot_weight (hit n)) held ≡ 0 in
          let none : total (slot_weight (hit number)) held ≡ 0 = subst F (eqb-true slot.number number same) free in
          omega arith
      | false ↦ λ _. omega (arith, once number)
    ]) refl in
    omega arith

pub Slots-ask_enters : (by : By) (o : OpId) (x : Both) → Slots x → Slots (ask_enters by o x)
Slots-ask_enters by o x old =
    let held : List Slot = x.here.held in
    let number : ℕ = lowest_free held in
    let slot : Slot = record { number = number; by = by; op = o } in
    let free = none_by_number number held (lowest_free-free held) in
    let kept : (item : Carried) → AskNamed held item → AskNamed (held ++ slot ∷ []) item = AskNamed-push held slot in
    let kept_done : (item : Carried) → DoneNamed held item → DoneNamed (held ++ slot ∷ []) item = DoneNamed-push held slot in
    let more = λ (items : List Carried) (each : AllByRecursion (AskNamed held) items). Each-weaker (AskNamed held) (AskNamed (held ++ slot ∷ [])) kept items each in
    let more_done = λ (items : List Carried) (each : AllByRecursion (DoneNamed held) items). Each-weaker (DoneNamed held) (DoneNamed (held ++ slot ∷ [])) kept_done items each in
    record {
      one_place = λ weight. omega (arith, old.one_place weight, total-push (ask_weight weight) x.here.flight (Ask o number), total-push (slot_weight weight) held slot);
      once = once-push held slot old.once free.1;
      asks_flying = Each-push (AskNamed (held ++ slot ∷ [])) x.here.flight (Ask o number) (more x.here.flight old.asks_flying) (IsHeldFor-new held slot free.0);
      asks_standing = more x.here.standing old.asks_standing;
      dones_flying = more_done x.back.flight old.dones_flying;
      dones_standing = more_done x.back.standing old.dones_standing;
    }

pub Slots-ask_enters_back : (by : By) (o : OpId) (x : Both) → Slots (flip x) → Slots (flip (ask_enters by o x))
Slots-ask_enters_back by o x old =
    let ask : Carried = Ask o (lowest_free x.here.held) in
    record {
      one_place = λ weight. omega (arith, old.one_place weight, total-push (done_weight weight) x.here.flight ask, total-push (gone_weight weight) x.here.flight ask);
      once = old.once;
      asks_flying = old.asks_flying;
      asks_standing = old.asks_standing;
      dones_flying = Each-push (DoneNamed x.back.held) x.here.flight ask old.dones_flying tt;
      dones_standing = old.dones_standing;
    }
