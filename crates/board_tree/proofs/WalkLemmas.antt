-- A walk along the chain of a bus passes nobody by who is on the bus.
use Rattle.std.proofs.Common.{◌≡◌, ◌≢◌, ℕ, zero, suc, ◌+◌, ◌<◌, ◌≤◌, Bool, true, false, ◌&&◌, ◌==◌, List, [], ◌∷◌, map, length, get_or, Option, Some, None, slice_get, refl, sym, ap, subst, ◌∙◌, inl, inr, arith}
use Rattle.std.specs.List.{find, list_any, position_from}
use Rattle.std.proofs.lemmas.Bool.{cases_lt, cases_eq, eq-eqb, ne_eqb, and_left, and_right, and_from}
use Rattle.std.proofs.lemmas.List.{length-map}
use Rattle.std.proofs.lemmas.Option.{slice_get_within, slice_get_past}
use Rattle.pci_command.specs.declared.command.Space.{Space}
use Rattle.board_model.specs.declared.agents.Target.{Target}
use Rattle.board_model.specs.declared.bridge.Bridge.{Bridge}
use Rattle.board_model.specs.Claims.{range_holds, bridge_holds, decodes_down}
use Rattle.board_model.specs.WellFormed.{has_bus}
use Rattle.board_tree.specs.declared.chains.Chains.{Chains}
use Rattle.board_tree.specs.Chains.{IsNext, AreChained}
use Rattle.board_tree.specs.Sites.{secondaries_of, claims_at, holds_at}

-- those before a place fail a test
abbrev pub Fails : {X : Type 0} → (X → Bool) → List X → ℕ → Type 0
Fails {X} test xs upto = (k : ℕ) (x : X) → k < upto → slice_get xs k ≡ Some x → test x ≡ false

-- who is at the place, if anybody is, is on the bus
abbrev pub IsOn : {X : Type 0} → (X → ℕ) → List X → ℕ → ℕ → Type 0
IsOn {X} bus_of xs bus place = (x : X) → slice_get xs place ≡ Some x → bus_of x ≡ bus

-- What a walk finds.

pub there_is : {X : Type 0} (xs : List X) (place : ℕ) → place < length xs → (x : X) × (slice_get xs place ≡ Some x)
there_is [] place inside = absurd (omega arith)
there_is (x ∷ xs) zero inside = (x, refl)
there_is (x ∷ xs) (suc place) inside = there_is xs place (omega arith)

-- the first that passes, by its place
pub first_place : {X : Type 0} (test : X → Bool) (xs : List X) (n place : ℕ) (x : X) → Fails test xs place → slice_get xs place ≡ Some x → test x ≡ true → position_from test n xs ≡ Some (n + place)
first_place test [] n place x fails is passes = cc
first_place test (y ∷ ys) n zero x fails is passes =
    let same : y ≡ x = cc in
    let here : test y ≡ true = ap test same ∙ passes in
    let sum : n ≡ n + 0 = omega arith in
    rw here (ap Some sum)
first_place test (y ∷ ys) n (suc place) x fails is passes =
    let here : test y ≡ false = fails 0 y (omega arith) refl in
    let later : position_from test (n + 1) ys ≡ Some (n + 1 + place) = first_place test ys (n + 1) place x (λ k z before at. fails (suc k) z (omega arith) at) is passes in
    let sum : n + 1 + place ≡ n + suc place = omega arith in
    rw here (later ∙ ap Some sum)

pub no_place : {X : Type 0} (test : X → Bool) (xs : List X) (n upto : ℕ) → Fails test xs upto → length xs ≤ upto → position_from test n xs ≡ None
no_place test [] n upto fails past = refl
no_place test (y ∷ ys) n zero fails past = absurd (omega arith)
no_place test (y ∷ ys) n (suc upto) fails past =
    let here : test y ≡ false = fails 0 y (omega arith) refl in
    rw here (no_place test ys (n + 1) upto (λ k z before at. fails (suc k) z (omega arith) at) (omega arith))

-- the same by what is there
pub first_found : {X : Type 0} (test : X → Bool) (xs : List X) (place : ℕ) (x : X) → Fails test xs place → slice_get xs place ≡ Some x → test x ≡ true → find test xs ≡ Some x
first_found test [] place x fails is passes = cc
first_found test (y ∷ ys) zero x fails is passes =
    let same : y ≡ x = cc in
    let here : test y ≡ true = ap test same ∙ passes in
    rw here (ap Some same)
first_found test (y ∷ ys) (suc place) x fails is passes =
    let here : test y ≡ false = fails 0 y (omega arith) refl in
    rw here (first_found test ys place x (λ k z before at. fails (suc k) z (omega arith) at) is passes)

pub none_found : {X : Type 0} (test : X → Bool) (xs : List X) (upto : ℕ) → Fails test xs upto → length xs ≤ upto → find test xs ≡ None
none_found test [] upto fails past = refl
none_found test (y ∷ ys) zero fails past = absurd (omega arith)
none_found test (y ∷ ys) (suc upto) fails past =
    let here : test y ≡ false = fails 0 y (omega arith) refl in
    rw here (none_found test ys upto (λ k z before at. fails (suc k) z (omega arith) at) (omega arith))

-- Its steps.

-- the bus at a place where somebody is
bus_there : {X : Type 0} (bus_of : X → ℕ) (xs : List X) (place : ℕ) (x : X) → slice_get xs place ≡ Some x → get_or (map bus_of xs) place 0 ≡ bus_of x
bus_there bus_of [] place x is = cc
bus_there bus_of (y ∷ ys) zero x is = let same : y ≡ x = cc in ap bus_of same
bus_there bus_of (y ∷ ys) (suc place) x is = bus_there bus_of ys place x is

-- who is passed by is on another bus
passed_by : {X : Type 0} (bus_of : X → ℕ) (xs : List X) (bus from to : ℕ) → IsNext (map bus_of xs) bus from to → (k : ℕ) (x : X) → from ≤ k → k < to → slice_get xs k ≡ Some x → bus_of x ≢ bus
passed_by bus_of xs bus from to next k x after before at = λ on.
    let inside : k < length xs = slice_get_within xs k x at in
    let far : k < length (map bus_of xs) = omega (arith, inside, length-map xs bus_of) in
    next.between k after before far (bus_there bus_of xs k x at ∙ on)

-- who is at its end is on the bus
reached : {X : Type 0} (bus_of : X → ℕ) (xs : List X) (bus from to : ℕ) → IsNext (map bus_of xs) bus from to → IsOn bus_of xs bus to
reached bus_of xs bus from to next x at =
    let inside : to < length xs = slice_get_within xs to x at in
    let far : to < length (map bus_of xs) = omega (arith, inside, length-map xs bus_of) in
    sym (bus_there bus_of xs to x at) ∙ next.there far

-- those of other buses fail
abbrev pub FailsElsewhere : {X : Type 0} → (X → ℕ) → (X → Bool) → ℕ → Type 0
FailsElsewhere {X} bus_of test bus = (x : X) → bus_of x ≢ bus → test x ≡ false

-- it begins at the first of the bus
pub walk_begins : {X : Type 0} (bus_of : X → ℕ) (test : X → Bool) (xs : List X) (chains : Chains) (bus place : ℕ) → AreChained (map bus_of xs) chains → bus < 256 → FailsElsewhere bus_of test bus
    → place ≡ get_or chains.first bus 0 → Fails test xs place × IsOn bus_of xs bus place
walk_begins bus_of test xs chains bus place chained small elsewhere is =
    let next : IsNext (map bus_of xs) bus 0 place = subst (IsNext (map bus_of xs) bus 0) (sym is) (chained.first bus small) in
    (λ k x before at. elsewhere x (passed_by bus_of xs bus 0 place next k x (omega arith) before at), reached bus_of xs bus 0 place next)

-- and goes on to the next, where who is there fails
pub walk_goes_on : {X : Type 0} (bus_of : X → ℕ) (test : X → Bool) (xs : List X) (chains : Chains) (bus place onwards : ℕ) → AreChained (map bus_of xs) chains → FailsElsewhere bus_of test bus
    → place < length xs → Fails test xs place → IsOn bus_of xs bus place → ((x : X) → slice_get xs place ≡ Some x → test x ≡ false) → onwards ≡ get_or chains.next place 0
    → (place < onwards) × Fails test xs onwards × IsOn bus_of xs bus onwards
walk_goes_on bus_of test xs chains bus place onwards chained elsewhere inside fails on here is =
    let somebody = there_is xs place inside in
    let same : get_or (map bus_of xs) place 0 ≡ bus = bus_there bus_of xs place somebody.0 somebody.1 ∙ on somebody.0 somebody.1 in
    let far : place < length (map bus_of xs) = omega (arith, inside, length-map xs bus_of) in
    let from_there : IsNext (map bus_of xs) bus (place + 1) (get_or chains.next place 0) =
    subst (λ (n : ℕ). IsNext (map bus_of xs) n (place + 1) (get_or chains.next place 0)) same (chained.next place (omega arith) far) in
    let next : IsNext (map bus_of xs) bus (place + 1) onwards = subst (IsNext (map bus_of xs) bus (place + 1)) (sym is) from_there in (
      omega (arith, next.behind),
      λ k x before at. elim (cases_lt k place) as (λ _. test x ≡ false) [
        | inl earlier ↦ fails k x earlier at
        | inr later ↦ elim (cases_eq k place) as (λ _. test x ≡ false) [
          | inl same_place ↦ here x (subst (λ (n : ℕ). slice_get xs n ≡ Some x) same_place at)
          | inr beyond ↦ elsewhere x (passed_by bus_of xs bus (place + 1) onwards next k x (omega (arith, later, beyond)) before at)
        ]
      ],
      reached bus_of xs bus (place + 1) onwards next,
    )

-- Targets.

-- a target on the bus with the address in one of its ranges
abbrev pub claims : ℕ → Space → ℕ → Target → Bool
claims bus space address target = target.bus == bus && list_any (range_holds space address) target.ranges

pub claims_elsewhere : (bus : ℕ) (space : Space) (address : ℕ) → FailsElsewhere (λ (target : Target). target.bus) (claims bus space address) bus
claims_elsewhere bus space address target apart = and_left (target.bus == bus) (list_any (range_holds space address) target.ranges) (ne_eqb target.bus bus apart)

-- who was looked at does not claim
pub looked_no : (bus : ℕ) (space : Space) (address : ℕ) (found : Option Target) (looked : Bool) → looked ≡ claims_at space address found → looked ≡ false → (target : Target) → found ≡ Some target → claims bus space address target ≡ false
looked_no bus space address found looked told is_no target is =
    and_right (target.bus == bus) (list_any (range_holds space address) target.ranges) (ap (claims_at space address) (sym is) ∙ (sym told ∙ is_no))

-- or claims, and is the first that does
pub looked_yes : (bus : ℕ) (space : Space) (address : ℕ) (targets : List Target) (place : ℕ) (looked : Bool) → Fails (claims bus space address) targets place → IsOn (λ (target : Target). target.bus) targets bus place
    → place < length targets → looked ≡ claims_at space address (slice_get targets place) → looked ≡ true → Some place ≡ position_from (claims bus space address) 0 targets
looked_yes bus space address targets place looked fails on inside told is_yes =
    let somebody = there_is targets place inside in
    let target : Target = somebody.0 in
    let is : slice_get targets place ≡ Some target = somebody.1 in
    let in_range : list_any (range_holds space address) target.ranges ≡ true = ap (claims_at space address) (sym is) ∙ (sym told ∙ is_yes) in
    let passes : claims bus space address target ≡ true = and_from (target.bus == bus) (list_any (range_holds space address) target.ranges) (eq-eqb target.bus bus (on target is)) in_range in
    let sum : place ≡ 0 + place = omega arith in
    ap Some sum ∙ sym (first_place (claims bus space address) targets 0 place target fails is passes)

-- Bridges.

pub decodes_elsewhere : (bus : ℕ) (space : Space) (address : ℕ) → FailsElsewhere (λ (bridge : Bridge). bridge.parent) (decodes_down bus space address) bus
decodes_elsewhere bus space address bridge apart = and_left (bridge.parent == bus) (bridge_holds space address bridge) (ne_eqb bridge.parent bus apart)

pub held_no : (bus : ℕ) (space : Space) (address : ℕ) (found : Option Bridge) (looked : Bool) → looked ≡ holds_at space address found → looked ≡ false → (bridge : Bridge) → found ≡ Some bridge → decodes_down bus space address bridge ≡ false
held_no bus space address found looked told is_no bridge is =
    and_right (bridge.parent == bus) (bridge_holds space address bridge) (ap (holds_at space address) (sym is) ∙ (sym told ∙ is_no))

pub held_yes : (bus : ℕ) (space : Space) (address : ℕ) (bridges : List Bridge) (place : ℕ) (looked : Bool) → Fails (decodes_down bus space address) bridges place → IsOn (λ (bridge : Bridge). bridge.parent) bridges bus place
    → place < length bridges → looked ≡ holds_at space address (slice_get bridges place) → looked ≡ true → slice_get bridges place ≡ find (decodes_down bus space address) bridges
held_yes bus space address bridges place looked fails on inside told is_yes =
    let somebody = there_is bridges place inside in
    let bridge : Bridge = somebody.0 in
    let is : slice_get bridges place ≡ Some bridge = somebody.1 in
    let in_window : bridge_holds space address bridge ≡ true = ap (holds_at space address) (sym is) ∙ (sym told ∙ is_yes) in
    let passes : decodes_down bus space address bridge ≡ true = and_from (bridge.parent == bus) (bridge_holds space address bridge) (eq-eqb bridge.parent bus (on bridge is)) in_window in
    is ∙ sym (first_found (decodes_down bus space address) bridges place bridge fails is passes)

pub held_none : (test : Bridge → Bool) (bridges : List Bridge) (place : ℕ) → Fails test bridges place → length bridges ≤ place → slice_get bridges place ≡ find test bridges
held_none test bridges place fails past = slice_get_past bridges place past ∙ sym (none_found test bridges place fails past)

-- the bridge to a bus is the first of its chain
pub own_found : (bridges : List Bridge) (chains : Chains) (bus place : ℕ) → AreChained (secondaries_of bridges) chains → bus < 256 → place ≡ get_or chains.first bus 0 → slice_get bridges place ≡ find (has_bus bus) bridges
own_found bridges chains bus place chained small is =
    let below : Bridge → ℕ = λ (bridge : Bridge). bridge.bus in
    let walk = walk_begins below (has_bus bus) bridges chains bus place chained small (λ bridge apart. ne_eqb bridge.bus bus apart) is in
    elim (cases_lt place (length bridges)) as (λ _. slice_get bridges place ≡ find (has_bus bus) bridges) [
      | inl inside ↦
          let somebody = there_is bridges place inside in
          let passes : has_bus bus somebody.0 ≡ true = eq-eqb somebody.0.bus bus (walk.1 somebody.0 somebody.1) in
          somebody.1 ∙ sym (first_found (has_bus bus) bridges place somebody.0 walk.0 somebody.1 passes)
      | inr past ↦ held_none (has_bus bus) bridges place walk.0 past
    ]
