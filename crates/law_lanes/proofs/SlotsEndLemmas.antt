-- Where the items of slots are after a standing item ended and was answered.
use Rattle.std.proofs.Common.{◌≡◌, ℕ, true, false, List, Option, Some, None, refl, arith}
use Rattle.std.specs.List.{find, AllByRecursion}
use Rattle.list_facts.specs.Lists.{total}
use Rattle.list_facts.proofs.TotalLemmas.{found, total-less, total-append}
use Rattle.list_facts.proofs.FindLemmas.{find_passes}
use Rattle.list_facts.proofs.EachLemmas.{Each-append, Each-less, Each-find}
use Rattle.pci_command.specs.declared.op_id.OpId.{OpId}
use Rattle.pci_command.specs.declared.op_id.Outcome.{Outcome}
use Rattle.history_model.specs.declared.item.Carried.{Carried}
use Rattle.history_model.specs.declared.item.Carried.TheVariants.{Post, Ask, Done, Room, Gone}
use Rattle.history_model.specs.declared.item.Slot.{Slot}
use Rattle.history_model.specs.Lanes.{Both, is_of, reply_to, item_ends}
use Rattle.law_lanes.specs.Slots.{ask_weight, done_weight, gone_weight, AskNamed, DoneNamed, Slots}
use Rattle.history_model.proofs.facts.BridgeLemmas.{flip}

-- a completion weighs what the request weighed that it answers
reply-done_weight : (weight : ℕ → ℕ) (outcome : Outcome) (item : Option Carried) → total (done_weight weight) (reply_to outcome item) ≡ found (ask_weight weight) item
reply-done_weight weight outcome None = refl
reply-done_weight weight outcome (Some (Post op)) = refl
reply-done_weight weight outcome (Some (Ask op slot)) = omega arith
reply-done_weight weight outcome (Some (Done op slot given)) = refl
reply-done_weight weight outcome (Some Room) = refl
reply-done_weight weight outcome (Some (Gone slot)) = refl

reply-ask_weight : (weight : ℕ → ℕ) (outcome : Outcome) (item : Option Carried) → total (ask_weight weight) (reply_to outcome item) ≡ 0
reply-ask_weight weight outcome None = refl
reply-ask_weight weight outcome (Some (Post op)) = refl
reply-ask_weight weight outcome (Some (Ask op slot)) = refl
reply-ask_weight weight outcome (Some (Done op slot given)) = refl
reply-ask_weight weight outcome (Some Room) = refl
reply-ask_weight weight outcome (Some (Gone slot)) = refl

reply-gone_weight : (weight : ℕ → ℕ) (outcome : Outcome) (item : Option Carried) → total (gone_weight weight) (reply_to outcome item) ≡ 0
reply-gone_weight weight outcome None = refl
reply-gone_weight weight outcome (Some (Post op)) = refl
reply-gone_weight weight outcome (Some (Ask op slot)) = refl
reply-gone_weight weight outcome (Some (Done op slot given)) = refl
reply-gone_weight weight outcome (Some Room) = refl
reply-gone_weight weight outcome (Some (Gone slot)) = refl

-- a completion is named as the request was
reply-named : (held : List Slot) (outcome : Outcome) (item : Option Carried) → ((y : Carried) → item ≡ Some y → AskNamed held y) → AllByRecursion (DoneNamed held) (reply_to outcome item)
reply-named held outcome None named = tt
reply-named held outcome (Some (Post op)) named = (tt, tt)
reply-named held outcome (Some (Ask op slot)) named = (named (Ask op slot) refl, tt)
reply-named held outcome (Some (Done op slot given)) named = tt
reply-named held outcome (Some Room) named = tt
reply-named held outcome (Some (Gone slot)) named = tt

reply-no_ask : (held : List Slot) (outcome : Outcome) (item : Option Carried) → AllByRecursion (AskNamed held) (reply_to outcome item)
reply-no_ask held outcome None = tt
reply-no_ask held outcome (Some (Post op)) = (tt, tt)
reply-no_ask held outcome (Some (Ask op slot)) = (tt, tt)
reply-no_ask held outcome (Some (Done op slot given)) = tt
reply-no_ask held outcome (Some Room) = tt
reply-no_ask held outcome (Some (Gone slot)) = tt

-- what is of an operation is no completion
of_op-done_weight : (weight : ℕ → ℕ) (o : OpId) (item : Option Carried) → ((y : Carried) → item ≡ Some y → is_of o y ≡ true) → found (done_weight weight) item ≡ 0
of_op-done_weight weight o None passes = refl
of_op-done_weight weight o (Some (Post op)) passes = refl
of_op-done_weight weight o (Some (Ask op slot)) passes = refl
of_op-done_weight weight o (Some (Done op slot given)) passes = let e : false ≡ true = passes (Done op slot given) refl in cc
of_op-done_weight weight o (Some Room) passes = refl
of_op-done_weight weight o (Some (Gone slot)) passes = refl

pub Slots-item_ends : (o : OpId) (outcome : Outcome) (x : Both) → Slots x → Slots (item_ends o outcome x)
Slots-item_ends o outcome x old =
    let item : Option Carried = find (is_of o) x.here.standing in
    let reply : List Carried = reply_to outcome item in
    record {
      one_place = λ weight.
          omega (
            arith,
            old.one_place weight,
            total-less (ask_weight weight) (is_of o) x.here.standing,
            total-append (done_weight weight) x.back.flight reply,
            total-append (gone_weight weight) x.back.flight reply,
            reply-done_weight weight outcome item,
            reply-gone_weight weight outcome item,
          );
      once = old.once;
      asks_flying = old.asks_flying;
      asks_standing = Each-less (AskNamed x.here.held) (is_of o) x.here.standing old.asks_standing;
      dones_flying = Each-append (DoneNamed x.here.held) x.back.flight reply old.dones_flying
          (reply-named x.here.held outcome item (λ y some. Each-find (AskNamed x.here.held) (is_of o) x.here.standing y old.asks_standing some));
      dones_standing = old.dones_standing;
    }

pub Slots-item_ends_back : (o : OpId) (outcome : Outcome) (x : Both) → Slots (flip x) → Slots (flip (item_ends o outcome x))
Slots-item_ends_back o outcome x old =
    let item : Option Carried = find (is_of o) x.here.standing in
    let reply : List Carried = reply_to outcome item in
    record {
      one_place = λ weight.
          omega (
            arith,
            old.one_place weight,
            total-less (done_weight weight) (is_of o) x.here.standing,
            total-append (ask_weight weight) x.back.flight reply,
            reply-ask_weight weight outcome item,
            of_op-done_weight weight o item (λ y some. find_passes (is_of o) x.here.standing y some),
          );
      once = old.once;
      asks_flying = Each-append (AskNamed x.back.held) x.back.flight reply old.asks_flying (reply-no_ask x.back.held outcome item);
      asks_standing = old.asks_standing;
      dones_flying = old.dones_flying;
      dones_standing = Each-less (DoneNamed x.back.held) (is_of o) x.here.standing old.dones_standing;
    }
