-- How many events have stamps below a number, and that each stamp of what a bus puts on a lane is that of an event.
use Rattle.std.proofs.Common.{◌≡◌, ℕ, zero, suc, ◌+◌, ◌≤◌, nat_lt, Bool, true, false, cond, List, [], ◌∷◌, ◌++◌, length, map, reverse, replicate, Some, refl, sym, ap, subst, ◌∙◌, append_assoc, append-nil, arith, slice_get}
use Rattle.std.specs.List.{AllByRecursion}
use Rattle.std.proofs.lemmas.Bool.{ltb-true, lt-ltb}
use Rattle.std.proofs.lemmas.List.{length-append, length-reverse}
use Rattle.list_facts.specs.Lists.{total}
use Rattle.list_facts.proofs.EachLemmas.{Each-append, Each-weaker}
use Rattle.board_model.specs.declared.bridge.Lane.{Lane as BridgeLane}
use Rattle.board_model.specs.declared.board.Board.{Board}
use Rattle.history_model.specs.declared.event.Stamped.{Stamped}
use Rattle.history_model.specs.declared.item.Carried.{Carried}
use Rattle.law_local.specs.Stamps.{events_of, items_put, put_stamps}
use Rattle.bus_segment.specs.Stands.{WorkerView}
use Rattle.engine_phases.specs.Phase.{begun, count_all}

-- Lists.

pub each_all : {X : Type 0} (P : X → Type 0) (xs : List X) → ((x : X) → P x) → AllByRecursion P xs
each_all P [] all = tt
each_all P (x ∷ xs) all = (all x, each_all P xs all)

pub each_both : {X : Type 0} (P Q R : X → Type 0) → ((x : X) → P x → Q x → R x) → (xs : List X) → AllByRecursion P xs → AllByRecursion Q xs → AllByRecursion R xs
each_both P Q R both [] one other = tt
each_both P Q R both (x ∷ xs) one other = (both x one.0 other.0, each_both P Q R both xs one.1 other.1)

-- what holds for every number holds for a number of each element's own
pub each_own : {X : Type 0} (P : ℕ → X → Type 0) (own : X → ℕ) (xs : List X) → ((n : ℕ) → AllByRecursion (P n) xs) → AllByRecursion (λ (x : X). P (own x) x) xs
each_own P own [] every = tt
each_own P own (x ∷ xs) every = ((every (own x)).0, each_own P own xs (λ n. (every n).1))

pub each_of_map : {X Y : Type 0} (P : Y → Type 0) (f : X → Y) (xs : List X) → AllByRecursion P (map f xs) → AllByRecursion (λ (x : X). P (f x)) xs
each_of_map P f [] each = tt
each_of_map P f (x ∷ xs) each = (each.0, each_of_map P f xs each.1)

pub each_parts : {X : Type 0} (P : X → Type 0) (xs ys : List X) → AllByRecursion P (xs ++ ys) → AllByRecursion P xs × AllByRecursion P ys
each_parts P [] ys each = (tt, each)
each_parts P (x ∷ xs) ys each = let rest = each_parts P xs ys each.1 in ((each.0, rest.0), rest.1)

each_replicate : (P : ℕ → Type 0) (n x : ℕ) → P x → AllByRecursion P (replicate n x)
each_replicate P zero x is = tt
each_replicate P (suc n) x is = (is, each_replicate P n x is)

pub total_upto : {X : Type 0} (f g : X → ℕ) (xs : List X) → ((x : X) → f x ≤ g x) → total f xs ≤ total g xs
total_upto f g [] upto = omega arith
total_upto f g (x ∷ xs) upto = let one = upto x in let rest = total_upto f g xs upto in omega (arith, one, rest)

pub total_more : {X : Type 0} (f g : X → ℕ) (xs : List X) (k : ℕ) (x : X) → ((y : X) → f y ≤ g y) → slice_get xs k ≡ Some x → f x + 1 ≤ g x → total f xs + 1 ≤ total g xs
total_more f g [] k x upto here more = cc
total_more {X} f g (y ∷ xs) zero x upto here more =
    let same : y ≡ x = cc in
    let one : f y + 1 ≤ g y = subst (λ (z : X). f z + 1 ≤ g z) (sym same) more in
    let rest = total_upto f g xs upto in omega (arith, one, rest)
total_more f g (y ∷ xs) (suc k) x upto here more = let one = upto y in let rest = total_more f g xs k x upto here more in omega (arith, one, rest)

-- Events with stamps below a number.

abbrev is_below : ℕ → ℕ → ℕ
is_below t s = cond (nat_lt s t) 1 0

abbrev pub below : ℕ → List Stamped → ℕ
below t events = total (λ (s : Stamped). is_below t s.stamp) events

-- one more is below the next number
abbrev pub Steps : List Stamped → ℕ → Type 0
Steps events t = below t events + 1 ≤ below (t + 1) events

one_upto : (t s : ℕ) → is_below t s ≤ is_below (t + 1) s
one_upto t s =
    let P : Bool → Type 0 = λ b. nat_lt s t ≡ b → cond b 1 0 ≤ cond (nat_lt s (t + 1)) 1 0 in
    (elim (nat_lt s t) as P [
      | true ↦ λ is.
          let less = ltb-true s t is in
          let next : nat_lt s (t + 1) ≡ true = lt-ltb s (t + 1) (omega (arith, less)) in
          subst (λ (b : Bool). 1 ≤ cond b 1 0) (sym next) (omega arith)
      | false ↦ λ _. omega arith
    ]) refl

one_most : (t s : ℕ) → is_below t s ≤ 1
one_most t s = elim (nat_lt s t) as (λ b. cond b 1 0 ≤ 1) [ true ↦ omega arith | false ↦ omega arith ]

-- a stamp is not below itself, and below the next number
own_step : (s : ℕ) → is_below s s + 1 ≤ is_below (s + 1) s
own_step s =
    let next : nat_lt s (s + 1) ≡ true = lt-ltb s (s + 1) (omega arith) in
    let P : Bool → Type 0 = λ b. nat_lt s s ≡ b → cond b 1 0 + 1 ≤ cond (nat_lt s (s + 1)) 1 0 in
    (elim (nat_lt s s) as P [
      | true ↦ λ is. let wrong = ltb-true s s is in absurd (omega (arith, wrong))
      | false ↦ λ _. subst (λ (b : Bool). 0 + 1 ≤ cond b 1 0) (sym next) (omega arith)
    ]) refl

pub below_upto : (t : ℕ) (events : List Stamped) → below t events ≤ below (t + 1) events
below_upto t events = total_upto (λ (s : Stamped). is_below t s.stamp) (λ (s : Stamped). is_below (t + 1) s.stamp) events (λ s. one_upto t s.stamp)

pub below_most : (t : ℕ) (events : List Stamped) → below t events ≤ length events
below_most t [] = omega arith
below_most t (s ∷ events) = let one = one_most t s.stamp in let rest = below_most t events in omega (arith, one, rest)

steps_here : (s : Stamped) (events : List Stamped) → Steps (s ∷ events) s.stamp
steps_here s events = let one = own_step s.stamp in let rest = below_upto s.stamp events in omega (arith, one, rest)

steps_later : (s : Stamped) (events : List Stamped) (t : ℕ) → Steps events t → Steps (s ∷ events) t
steps_later s events t steps = let one = one_upto t s.stamp in omega (arith, one, steps)

-- what a bus puts on a lane with later events has the stamps of these
pub more_put : (board : Board) (came : BridgeLane → List Carried) (lane : BridgeLane) (later p : List Stamped)
    → (more : List ℕ) × (put_stamps board came lane (later ++ p) ≡ put_stamps board came lane p ++ more) × AllByRecursion (Steps later) more
more_put board came lane [] p = ([], sym (append-nil (put_stamps board came lane p)), tt)
more_put board came lane (s ∷ later) p =
    let rest = more_put board came lane later p in
    let n : ℕ = items_put board came lane (events_of (later ++ p)) s.event in
    let last : List ℕ = replicate n s.stamp in (
      rest.0 ++ last,
      ap (λ (l : List ℕ). l ++ last) rest.1 ∙ append_assoc (put_stamps board came lane p) rest.0 last,
      Each-append (Steps (s ∷ later)) rest.0 last (Each-weaker (Steps later) (Steps (s ∷ later)) (λ t steps. steps_later s later t steps) rest.0 rest.2)
          (each_replicate (Steps (s ∷ later)) n s.stamp (steps_here s later)),
    )

-- How many events there are.

pub count_begun : {End : Type 0} (from : ℕ) (workers : List (WorkerView End)) → count_all (map (begun from) workers) ≡ count_all workers
count_begun from [] = refl
count_begun from (w ∷ workers) = ap (λ (n : ℕ). length w.events + n) (count_begun from workers)

pub count_grown : {End : Type 0} (later : ℕ → List Stamped) (old new : List (WorkerView End)) → length new ≡ length old
    → ((k : ℕ) (w : WorkerView End) → slice_get old k ≡ Some w → (v : WorkerView End) × (slice_get new k ≡ Some v) × (v.events ≡ w.events ++ reverse (later w.segment.bus.bus)))
    → count_all new ≡ count_all old + total (λ (w : WorkerView End). length (later w.segment.bus.bus)) old
count_grown later [] [] many each = refl
count_grown later [] (v ∷ new) many each = absurd (omega (arith, many))
count_grown later (w ∷ old) [] many each = absurd (omega (arith, many))
count_grown {End} later (w ∷ old) (v ∷ new) many each =
    let first = each 0 w refl in
    let there : Some v ≡ Some first.0 = first.1 in
    let one : v ≡ first.0 = cc in
    let same = ap (λ (x : WorkerView End). length x.events) one ∙ ap length first.2 in
    let sum = length-append w.events (reverse (later w.segment.bus.bus)) in
    let turned = length-reverse (later w.segment.bus.bus) in
    let rest = count_grown later old new (omega (arith, many)) (λ k x here. each (suc k) x here) in
    omega (arith, same, sum, turned, rest)
