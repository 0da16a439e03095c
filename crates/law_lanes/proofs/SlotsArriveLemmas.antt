-- Where the items of slots are after an arrival.
use Rattle.std.proofs.Common.{◌≡◌, ℕ, ◌+◌, ◌≤◌, List, [], ◌∷◌, refl, ap, subst, arith}
use Rattle.std.specs.List.{AllByRecursion}
use Rattle.list_facts.specs.Lists.{total}
use Rattle.list_facts.proofs.TotalLemmas.{total-push}
use Rattle.list_facts.proofs.EachLemmas.{Each-push}
use Rattle.history_model.specs.declared.event.Mark.{Mark}
use Rattle.history_model.specs.declared.item.Carried.{Carried}
use Rattle.history_model.specs.declared.item.Carried.TheVariants.{Post, Ask, Done, Room, Gone}
use Rattle.history_model.specs.Lanes.{Both, Effect, Stands, Credits, Frees, Drops, effect_of, takes_effect, came_off, arrives_first, arrives}
use Rattle.law_lanes.specs.Slots.{hit, slot_weight, ask_weight, done_weight, gone_weight, places, AskNamed, DoneNamed, Slots}
use Rattle.law_lanes.specs.Standing.{CanStand}
use Rattle.history_model.proofs.facts.BridgeLemmas.{flip}
use Rattle.law_lanes.proofs.EffectLemmas.{IsRoom, IsLastOf, IsAskOf, Fits, effect_fits}
use Rattle.law_lanes.proofs.SlotsTakenLemmas.{SlotsBut, Slots-freed}

-- what the items weigh, by what they do when they arrive
stands-gone_weight : (weight : ℕ → ℕ) (item : Carried) → CanStand item → gone_weight weight item ≡ 0
stands-gone_weight weight (Post op) fits = refl
stands-gone_weight weight (Ask op slot) fits = refl
stands-gone_weight weight (Done op slot outcome) fits = refl
stands-gone_weight weight Room fits = refl
stands-gone_weight weight (Gone slot) fits = absurd fits

room-weighs : (weight : ℕ → ℕ) (item : Carried) → IsRoom item → (ask_weight weight item ≡ 0) × (done_weight weight item ≡ 0) × (gone_weight weight item ≡ 0)
room-weighs weight (Post op) fits = absurd fits
room-weighs weight (Ask op slot) fits = absurd fits
room-weighs weight (Done op slot outcome) fits = absurd fits
room-weighs weight Room fits = (refl, refl, refl)
room-weighs weight (Gone slot) fits = absurd fits

last-weighs : (weight : ℕ → ℕ) (number : ℕ) (item : Carried) → IsLastOf number item → (ask_weight weight item ≡ 0) × (done_weight weight item + gone_weight weight item ≡ weight number)
last-weighs weight number (Post op) fits = absurd fits
last-weighs weight number (Ask op slot) fits = absurd fits
last-weighs weight number (Done op slot outcome) fits = let same = ap weight fits in (refl, omega arith)
last-weighs weight number Room fits = absurd fits
last-weighs weight number (Gone slot) fits = let same = ap weight fits in (refl, omega arith)

ask-weighs : (weight : ℕ → ℕ) (number : ℕ) (item : Carried) → IsAskOf number item → (ask_weight weight item ≡ weight number) × (done_weight weight item ≡ 0) × (gone_weight weight item ≡ 0)
ask-weighs weight number (Post op) fits = absurd fits
ask-weighs weight number (Ask op slot) fits = (ap weight fits, refl, refl)
ask-weighs weight number (Done op slot outcome) fits = absurd fits
ask-weighs weight number Room fits = absurd fits
ask-weighs weight number (Gone slot) fits = absurd fits

-- the facts of a pair of lanes whose oldest item in flight just came off: of the lane's own slots, and of
-- those of the lane back
record Off (item : Carried) (x : Both) : Type 0 where
  one_place : (weight : ℕ → ℕ) → places weight x + ask_weight weight item ≡ total (slot_weight weight) x.here.held
  once : (number : ℕ) → total (slot_weight (hit number)) x.here.held ≤ 1
  named : AskNamed x.here.held item
  asks_flying : AllByRecursion (AskNamed x.here.held) x.here.flight
  asks_standing : AllByRecursion (AskNamed x.here.held) x.here.standing
  dones_flying : AllByRecursion (DoneNamed x.here.held) x.back.flight
  dones_standing : AllByRecursion (DoneNamed x.here.held) x.back.standing

record OffBack (item : Carried) (x : Both) : Type 0 where
  one_place : (weight : ℕ → ℕ) → places weight (flip x) + (done_weight weight item + gone_weight weight item) ≡ total (slot_weight weight) x.back.held
  once : (number : ℕ) → total (slot_weight (hit number)) x.back.held ≤ 1
  named : DoneNamed x.back.held item
  asks_flying : AllByRecursion (AskNamed x.back.held) x.back.flight
  asks_standing : AllByRecursion (AskNamed x.back.held) x.back.standing
  dones_flying : AllByRecursion (DoneNamed x.back.held) x.here.flight
  dones_standing : AllByRecursion (DoneNamed x.back.held) x.here.standing

Slots-effect : (effect : Effect) (item : Carried) (x : Both) → Fits effect item → Off item x → Slots (takes_effect effect item x)
Slots-effect Stands item x fits off =
    record {
      one_place = λ weight. omega (arith, off.one_place weight, total-push (ask_weight weight) x.here.standing item);
      once = off.once;
      asks_flying = off.asks_flying;
      asks_standing = Each-push (AskNamed x.here.held) x.here.standing item off.asks_standing off.named;
      dones_flying = off.dones_flying;
      dones_standing = off.dones_standing;
    }
Slots-effect Credits item x fits off =
    record {
      one_place = λ weight. omega (arith, off.one_place weight, room-weighs weight item fits);
      once = off.once;
      asks_flying = off.asks_flying;
      asks_standing = off.asks_standing;
      dones_flying = off.dones_flying;
      dones_standing = off.dones_standing;
    }
Slots-effect (Frees slot) item x fits off =
    record {
      one_place = λ weight. omega (arith, off.one_place weight, last-weighs weight slot item fits);
      once = off.once;
      asks_flying = off.asks_flying;
      asks_standing = off.asks_standing;
      dones_flying = off.dones_flying;
      dones_standing = off.dones_standing;
    }
Slots-effect (Drops slot) item x fits off =
    record {
      one_place = λ weight. omega (arith, off.one_place weight, ask-weighs weight slot item fits, total-push (gone_weight weight) x.back.flight (Gone slot), total-push (done_weight weight) x.back.flight (Gone slot));
      once = off.once;
      asks_flying = off.asks_flying;
      asks_standing = off.asks_standing;
      dones_flying = Each-push (DoneNamed x.here.held) x.back.flight (Gone slot) off.dones_flying tt;
      dones_standing = off.dones_standing;
    }

Slots-effect_back : (effect : Effect) (item : Carried) (x : Both) → Fits effect item → OffBack item x → Slots (flip (takes_effect effect item x))
Slots-effect_back Stands item x fits off =
    record {
      one_place = λ weight. omega (arith, off.one_place weight, total-push (done_weight weight) x.here.standing item, stands-gone_weight weight item fits);
      once = off.once;
      asks_flying = off.asks_flying;
      asks_standing = off.asks_standing;
      dones_flying = off.dones_flying;
      dones_standing = Each-push (DoneNamed x.back.held) x.here.standing item off.dones_standing off.named;
    }
Slots-effect_back Credits item x fits off =
    record {
      one_place = λ weight. omega (arith, off.one_place weight, room-weighs weight item fits);
      once = off.once;
      asks_flying = off.asks_flying;
      asks_standing = off.asks_standing;
      dones_flying = off.dones_flying;
      dones_standing = off.dones_standing;
    }
Slots-effect_back (Frees slot) item x fits off =
    let but : SlotsBut slot (flip x) = record {
      one_place = λ weight. omega (arith, off.one_place weight, last-weighs weight slot item fits);
      once = off.once;
      asks_flying = off.asks_flying;
      asks_standing = off.asks_standing;
      dones_flying = off.dones_flying;
      dones_standing = off.dones_standing;
    } in
    Slots-freed slot (flip x) but
Slots-effect_back (Drops slot) item x fits off =
    record {
      one_place = λ weight. omega (arith, off.one_place weight, ask-weighs weight slot item fits, total-push (ask_weight weight) x.back.flight (Gone slot));
      once = off.once;
      asks_flying = Each-push (AskNamed x.back.held) x.back.flight (Gone slot) off.asks_flying tt;
      asks_standing = off.asks_standing;
      dones_flying = off.dones_flying;
      dones_standing = off.dones_standing;
    }

arrives_first-keeps : (mark : Mark) (flight : List Carried) (x : Both) → x.here.flight ≡ flight → Slots x → Slots (arrives_first mark flight x)
arrives_first-keeps mark [] x same old = old
arrives_first-keeps mark (item ∷ rest) x same old =
    let y : Both = record x { here = came_off item rest x.here } in
    let named = subst (AllByRecursion (AskNamed x.here.held)) same old.asks_flying in
    let off : Off item y = record {
      one_place = λ weight. let e = ap (total (ask_weight weight)) same in omega (arith, old.one_place weight);
      once = old.once;
      named = named.0;
      asks_flying = named.1;
      asks_standing = old.asks_standing;
      dones_flying = old.dones_flying;
      dones_standing = old.dones_standing;
    } in
    Slots-effect (effect_of mark item) item y (effect_fits mark item) off

arrives_first-keeps_back : (mark : Mark) (flight : List Carried) (x : Both) → x.here.flight ≡ flight → Slots (flip x) → Slots (flip (arrives_first mark flight x))
arrives_first-keeps_back mark [] x same old = old
arrives_first-keeps_back mark (item ∷ rest) x same old =
    let y : Both = record x { here = came_off item rest x.here } in
    let named = subst (AllByRecursion (DoneNamed x.back.held)) same old.dones_flying in
    let off : OffBack item y = record {
      one_place = λ weight. let e = ap (total (done_weight weight)) same in let f = ap (total (gone_weight weight)) same in omega (arith, old.one_place weight);
      once = old.once;
      named = named.0;
      asks_flying = old.asks_flying;
      asks_standing = old.asks_standing;
      dones_flying = named.1;
      dones_standing = old.dones_standing;
    } in
    Slots-effect_back (effect_of mark item) item y (effect_fits mark item) off

pub Slots-arrives : (mark : Mark) (x : Both) → Slots x → Slots (arrives mark x)
Slots-arrives mark x old = arrives_first-keeps mark x.here.flight x refl old

pub Slots-arrives_back : (mark : Mark) (x : Both) → Slots (flip x) → Slots (flip (arrives mark x))
Slots-arrives_back mark x old = arrives_first-keeps_back mark x.here.flight x refl old
