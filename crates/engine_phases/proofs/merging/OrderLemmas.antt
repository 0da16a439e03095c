-- The order of the stamps: it rises, it keeps what passes a test in its order, and there is one such order.
use Rattle.std.proofs.Common.{◌≡◌, ℕ, suc, ◌<◌, ◌≤◌, Bool, true, false, cond, nat_le, List, [], ◌∷◌, length, get_or, refl, ap, sym, ◌∙◌, arith}
use Rattle.std.specs.List.{AllByRecursion, filter}
use Rattle.std.specs.List.Sorted.{IsNonDecreasingBy}
use Rattle.std.proofs.lemmas.Bool.Decides.{nat_tests}
use Rattle.list_facts.proofs.EachLemmas.{Each-weaker}
use Rattle.history_model.specs.declared.event.Stamped.{Stamped}
use Rattle.engine_phases.specs.merging.Merged.{put_event, in_order}

-- each event has this stamp or a higher one
abbrev pub From : ℕ → List Stamped → Type 0
From stamp es = AllByRecursion (λ (e : Stamped). stamp ≤ e.stamp) es

-- no stamp is above that of a later event
abbrev pub Rises : List Stamped → Type 0
Rises [] = Unit {0}
Rises (e ∷ es) = From e.stamp es × Rises es

pub from_lower : (low high : ℕ) (es : List Stamped) → low ≤ high → From high es → From low es
from_lower low high es below from = Each-weaker (λ (e : Stamped). high ≤ e.stamp) (λ (e : Stamped). low ≤ e.stamp) (λ e above. omega (arith, above)) es from

put_from : (stamp : ℕ) (e : Stamped) (es : List Stamped) → stamp ≤ e.stamp → From stamp es → From stamp (put_event e es)
put_from stamp e [] mine theirs = (mine, tt)
put_from stamp e (f ∷ es) mine theirs =
    let P : Bool → Type 0 = λ b. From stamp (cond b (e ∷ f ∷ es) (f ∷ put_event e es)) in
    elim (nat_le e.stamp f.stamp) as P [ true ↦ (mine, theirs) | false ↦ (theirs.0, put_from stamp e es mine theirs.1) ]

put_rises : (e : Stamped) (es : List Stamped) → Rises es → Rises (put_event e es)
put_rises e [] rises = (tt, tt)
put_rises e (f ∷ es) rises =
    let P : Bool → Type 0 = λ b. nat_le e.stamp f.stamp ≡ b → Rises (cond b (e ∷ f ∷ es) (f ∷ put_event e es)) in
    (elim (nat_le e.stamp f.stamp) as P [
      | true ↦ λ first. let below : e.stamp ≤ f.stamp = grind (arith, nat_tests) in ((below, from_lower e.stamp f.stamp es below rises.0), rises)
      | false ↦ λ later. let above : f.stamp ≤ e.stamp = grind (arith, nat_tests) in (put_from f.stamp e es above rises.0, put_rises e es rises.1)
    ]) refl

pub in_order_rises : (es : List Stamped) → Rises (in_order es)
in_order_rises [] = tt
in_order_rises (e ∷ es) = put_rises e (in_order es) (in_order_rises es)

-- what comes before all others goes to the front
put_front : (e : Stamped) (es : List Stamped) → From e.stamp es → put_event e es ≡ e ∷ es
put_front e [] from = refl
put_front e (f ∷ es) from =
    let below : e.stamp ≤ f.stamp = from.0 in
    let first : nat_le e.stamp f.stamp ≡ true = grind (arith, nat_tests) in
    ap (λ (b : Bool). cond b (e ∷ f ∷ es) (f ∷ put_event e es)) first

pub in_order_same : (es : List Stamped) → Rises es → in_order es ≡ es
in_order_same [] rises = refl
in_order_same (e ∷ es) rises = ap (put_event e) (in_order_same es rises.1) ∙ put_front e es rises.0

module _ (test : Stamped → Bool) where
  filter_from : (stamp : ℕ) (es : List Stamped) → From stamp es → From stamp (filter test es)
  filter_from stamp [] from = tt
  filter_from stamp (e ∷ es) from =
      let P : Bool → Type 0 = λ b. From stamp (cond b (e ∷ filter test es) (filter test es)) in
      elim (test e) as P [ true ↦ (from.0, filter_from stamp es from.1) | false ↦ filter_from stamp es from.1 ]

  put_passes : (e : Stamped) (es : List Stamped) → Rises es → test e ≡ true → filter test (put_event e es) ≡ put_event e (filter test es)
  put_passes e [] rises passes = ap (λ (b : Bool). cond b (e ∷ []) []) passes
  put_passes e (f ∷ es) rises passes =
      let rest : List Stamped = filter test es in
      let P : Bool → Type 0 = λ b. nat_le e.stamp f.stamp ≡ b → filter test (cond b (e ∷ f ∷ es) (f ∷ put_event e es)) ≡ put_event e (filter test (f ∷ es)) in
      (elim (nat_le e.stamp f.stamp) as P [
        | true ↦ λ first.
            let below : e.stamp ≤ f.stamp = grind (arith, nat_tests) in
            let from : From e.stamp (f ∷ es) = (below, from_lower e.stamp f.stamp es below rises.0) in
            ap (λ (b : Bool). cond b (e ∷ filter test (f ∷ es)) (filter test (f ∷ es))) passes
            ∙ sym (put_front e (filter test (f ∷ es)) (filter_from e.stamp (f ∷ es) from))
        | false ↦ λ later.
            let old : filter test (put_event e es) ≡ put_event e rest = put_passes e es rises.1 passes in
            let Q : Bool → Type 0 = λ t. cond t (f ∷ filter test (put_event e es)) (filter test (put_event e es)) ≡ put_event e (cond t (f ∷ rest) rest) in
            elim (test f) as Q [
              | true ↦ ap (λ (l : List Stamped). f ∷ l) old ∙ sym (ap (λ (b : Bool). cond b (e ∷ f ∷ rest) (f ∷ put_event e rest)) later)
              | false ↦ old
            ]
      ]) refl

  put_fails : (e : Stamped) (es : List Stamped) → test e ≡ false → filter test (put_event e es) ≡ filter test es
  put_fails e [] fails = ap (λ (b : Bool). cond b (e ∷ []) []) fails
  put_fails e (f ∷ es) fails =
      let rest : List Stamped = filter test (f ∷ es) in
      let P : Bool → Type 0 = λ b. filter test (cond b (e ∷ f ∷ es) (f ∷ put_event e es)) ≡ rest in
      elim (nat_le e.stamp f.stamp) as P [
        | true ↦ ap (λ (b : Bool). cond b (e ∷ rest) rest) fails
        | false ↦ ap (λ (l : List Stamped). cond (test f) (f ∷ l) l) (put_fails e es fails)
      ]

  -- what passes keeps its order, but for the stamps
  pub of_in_order : (es : List Stamped) → filter test (in_order es) ≡ in_order (filter test es)
  of_in_order [] = refl
  of_in_order (e ∷ es) =
      let P : Bool → Type 0 = λ b. test e ≡ b → filter test (put_event e (in_order es)) ≡ in_order (cond b (e ∷ filter test es) (filter test es)) in
      (elim (test e) as P [
        | true ↦ λ passes. put_passes e (in_order es) (in_order_rises es) passes ∙ ap (put_event e) (of_in_order es)
        | false ↦ λ fails. put_fails e (in_order es) fails ∙ of_in_order es
      ]) refl

-- a test of equal stamps
pub record TestsSame (same : Stamped → Stamped → Bool) : Type 0 where
  pub yes : (a b : Stamped) → a.stamp ≡ b.stamp → same a b ≡ true
  pub no : (a b : Stamped) → same a b ≡ true → a.stamp ≡ b.stamp

module _ (same : Stamped → Stamped → Bool) (tests : TestsSame same) where
  all_same : (e : Stamped) (es : List Stamped) → AllByRecursion (λ (f : Stamped). f.stamp ≡ e.stamp) (filter (same e) es)
  all_same e [] = tt
  all_same e (f ∷ es) =
      let P : Bool → Type 0 = λ b. same e f ≡ b → AllByRecursion (λ (g : Stamped). g.stamp ≡ e.stamp) (cond b (f ∷ filter (same e) es) (filter (same e) es)) in
      (elim (same e f) as P [ true ↦ λ is. (sym (tests.no e f is), all_same e es) | false ↦ λ _. all_same e es ]) refl

  same_rises : (stamp : ℕ) (es : List Stamped) → AllByRecursion (λ (f : Stamped). f.stamp ≡ stamp) es → Rises es
  same_rises stamp [] all = tt
  same_rises stamp (e ∷ es) all =
      let first : e.stamp ≡ stamp = all.0 in
      (Each-weaker (λ (f : Stamped). f.stamp ≡ stamp) (λ (f : Stamped). e.stamp ≤ f.stamp) (λ f is. omega (arith, is, first)) es all.1, same_rises stamp es all.1)

  -- events of equal stamps keep their order
  pub in_order_stable : (e : Stamped) (es : List Stamped) → filter (same e) (in_order es) ≡ filter (same e) es
  in_order_stable e es = of_in_order (same e) es ∙ in_order_same (filter (same e) es) (same_rises e.stamp (filter (same e) es) (all_same e es))

  none_same : (e : Stamped) (stamp : ℕ) (es : List Stamped) → e.stamp < stamp → From stamp es → filter (same e) es ≡ []
  none_same e stamp [] below from = refl
  none_same e stamp (f ∷ es) below from =
      let above : stamp ≤ f.stamp = from.0 in
      let P : Bool → Type 0 = λ b. same e f ≡ b → cond b (f ∷ filter (same e) es) (filter (same e) es) ≡ [] in
      (elim (same e f) as P [
        | true ↦ λ is. let equal : e.stamp ≡ f.stamp = tests.no e f is in absurd (omega (arith, equal, above, below))
        | false ↦ λ _. none_same e stamp es below from.1
      ]) refl

  self_first : (e : Stamped) (es : List Stamped) → filter (same e) (e ∷ es) ≡ e ∷ filter (same e) es
  self_first e es = let is : same e e ≡ true = tests.yes e e refl in rw is refl

  not_below : (e f : Stamped) (es fs : List Stamped) → Rises (f ∷ fs) → filter (same e) (e ∷ es) ≡ filter (same e) (f ∷ fs) → e.stamp < f.stamp → ⊥
  not_below e f es fs rises alike below =
      let from : From f.stamp (f ∷ fs) = (omega arith, rises.0) in
      let none = none_same e f.stamp (f ∷ fs) below from in
      let wrong : e ∷ filter (same e) es ≡ [] = sym (self_first e es) ∙ (alike ∙ none) in cc

  -- two lists that rise, and have for each stamp the same events in the same order, are one
  pub one_order : (es fs : List Stamped) → Rises es → Rises fs → ((x : Stamped) → filter (same x) es ≡ filter (same x) fs) → es ≡ fs
  one_order [] [] up down alike = refl
  one_order [] (f ∷ fs) up down alike = let wrong : [] ≡ f ∷ filter (same f) fs = alike f ∙ self_first f fs in cc
  one_order (e ∷ es) [] up down alike = let wrong : e ∷ filter (same e) es ≡ [] = sym (self_first e es) ∙ alike e in cc
  one_order (e ∷ es) (f ∷ fs) up down alike =
      let first : e.stamp < f.stamp → ⊥ = not_below e f es fs down (alike e) in
      let second : f.stamp < e.stamp → ⊥ = not_below f e fs es up (sym (alike f)) in
      let stamps : e.stamp ≡ f.stamp = omega (arith, first, second) in
      let is : same e f ≡ true = tests.yes e f stamps in
      let here : filter (same e) (f ∷ fs) ≡ f ∷ filter (same e) fs = rw is refl in
      let heads : e ∷ filter (same e) es ≡ f ∷ filter (same e) fs = sym (self_first e es) ∙ (alike e ∙ here) in
      let one : e ≡ f = cc in
      let tails : (x : Stamped) → filter (same x) es ≡ filter (same x) fs = λ x.
      let P : Bool → Type 0 = λ b. cond b (e ∷ filter (same x) es) (filter (same x) es) ≡ cond b (e ∷ filter (same x) fs) (filter (same x) fs) → filter (same x) es ≡ filter (same x) fs in
      let given : filter (same x) (e ∷ es) ≡ filter (same x) (e ∷ fs) = alike x ∙ ap (λ (g : Stamped). filter (same x) (g ∷ fs)) (sym one) in
      (elim (same x e) as P [ true ↦ λ q. cc | false ↦ λ q. q ]) given
      in
      let rest : es ≡ fs = one_order es fs up.1 down.1 tails in
      cc

-- the same by places
all_from : (stamp : ℕ) (es : List Stamped) → ((j : ℕ) (d : Stamped) → j < length es → stamp ≤ (get_or es j d).stamp) → From stamp es
all_from stamp [] each = tt
all_from stamp (e ∷ es) each = (each 0 e (omega arith), all_from stamp es (λ j d below. each (suc j) d (omega arith)))

pub rises_from : (es : List Stamped) → IsNonDecreasingBy (λ (e : Stamped). e.stamp) es → Rises es
rises_from [] up = tt
rises_from (e ∷ es) up = (all_from e.stamp es (λ j d below. up 0 (suc j) d (omega arith) (omega arith)), rises_from es (λ i j d less below. up (suc i) (suc j) d (omega arith) (omega arith)))
