-- What some events have nothing to do with can be left out: what is found is the same.
use Rattle.std.proofs.Common.{◌≡◌, ◌<◌, ◌≤◌, ◌-◌, ℕ, Bool, true, false, not, ◌&&◌, ◌||◌, cond, eqb, nat_lt, nat_le, List, [], ◌∷◌, Option, Some, None, refl, sym, ap, ◌∙◌, arith, eqb-true}
use Rattle.std.specs.List.{filter, find}
use Rattle.std.proofs.lemmas.Bool.Decides.{nat_tests}
use Rattle.pci_command.specs.declared.op_id.OpId.{OpId}
use Rattle.board_model.specs.declared.bridge.Lane.{Lane as BridgeLane}
use Rattle.board_model.specs.declared.bridge.Place.{Place}
use Rattle.board_model.specs.declared.bridge.Place.TheVariants.{Target, Header, Lane, Nobody}
use Rattle.board_model.specs.Ways.{lane_back}
use Rattle.history_model.specs.declared.event.By.{By}
use Rattle.history_model.specs.declared.event.By.TheVariants.{Master, Lane as ByLane}
use Rattle.history_model.specs.declared.event.Event.{Event}
use Rattle.history_model.specs.declared.event.Event.TheVariants.{Act, Arrive}
use Rattle.history_model.specs.Lanes.{is_of}
use Rattle.history_model.specs.World.{same_lane}
use Rattle.draw_items.specs.declared.journey.Journey.{Journey}
use Rattle.draw_items.specs.Journeys.{can_stand, has_come, has_left, stands_at}
use Rattle.draw_items.specs.Touched.{is_done, comes_in, is_presented_in, presented_in, item_of, is_taken_in, given_in, is_take, taken_by, is_among, is_near, TellsRows}

-- Tests.

first_true : (a b : Bool) → (a && b) ≡ true → a ≡ true
first_true true b is = refl
first_true false b is = is

second_true : (a b : Bool) → (a && b) ≡ true → b ≡ true
second_true true b is = is
second_true false b is = cc

and_true : (a b : Bool) → a ≡ true → b ≡ true → (a && b) ≡ true
and_true true b is also = also
and_true false b is also = is

or_first : (a b : Bool) → a ≡ true → (a || b) ≡ true
or_first true b is = refl
or_first false b is = cc

or_second : (a b : Bool) → b ≡ true → (a || b) ≡ true
or_second true b is = refl
or_second false b is = is

-- the first that passes a test is found among those that pass a wider one
find_kept : {X : Type 0} (test wide : X → Bool) → ((x : X) → test x ≡ true → wide x ≡ true) → (xs : List X) → find test (filter wide xs) ≡ find test xs
find_kept test wide narrow [] = refl
find_kept {X} test wide narrow (x ∷ xs) =
    let rest : List X = filter wide xs in
    let P : Bool → Type 0 = λ b. wide x ≡ b → find test (cond b (x ∷ rest) rest) ≡ cond (test x) (Some x) (find test xs) in
    (elim (wide x) as P [
      | true ↦ λ _. ap (λ (o : Option X). cond (test x) (Some x) o) (find_kept test wide narrow xs)
      | false ↦ λ out.
          let Q : Bool → Type 0 = λ b. test x ≡ b → find test rest ≡ cond b (Some x) (find test xs) in
          (elim (test x) as Q [ true ↦ λ is. let wrong : wide x ≡ true = narrow x is in cc | false ↦ λ _. find_kept test wide narrow xs ]) refl
    ]) refl

-- Numbers of events.

among_is : (before last n : ℕ) → before < n → n ≤ last → is_among before last n ≡ true
among_is before last n more most =
    let above : nat_lt before n ≡ true = grind (arith, nat_tests) in
    let within : nat_le n last ≡ true = grind (arith, nat_tests) in
    and_true (nat_lt before n) (nat_le n last) above within

-- what happened by then had happened later
later : (m n k : ℕ) → m ≤ n → (nat_lt 0 k && nat_le k m) ≡ true → (nat_lt 0 k && nat_le k n) ≡ true
later m n k more is =
    let within : nat_le k m ≡ true = second_true (nat_lt 0 k) (nat_le k m) is in
    let still : nat_le k n ≡ true = grind (arith, nat_tests) in
    and_true (nat_lt 0 k) (nat_le k n) (first_true (nat_lt 0 k) (nat_le k m) is) still

-- what had not happened by then had not happened before
not_before : (m n k : ℕ) → m ≤ n → not (nat_lt 0 k && nat_le k n) ≡ true → not (nat_lt 0 k && nat_le k m) ≡ true
not_before m n k more not_yet =
    let P : Bool → Type 0 = λ b. (nat_lt 0 k && nat_le k m) ≡ b → not b ≡ true in
    (elim (nat_lt 0 k && nat_le k m) as P [
      | true ↦ λ is. ap (λ (b : Bool). not b) (sym (later m n k more is)) ∙ not_yet
      | false ↦ λ _. refl
    ]) refl

-- What an event has to do with is near it.

comes_near : (before last n : ℕ) (lane : BridgeLane) (j : Journey) → before < n → n ≤ last → comes_in n lane j ≡ true → is_near before last j ≡ true
comes_near before last n lane j more most is =
    let came : j.came ≡ n = eqb-true j.came n (second_true (same_lane j.lane lane) (eqb j.came n) is) in
    or_first (is_among before last j.came) _ (ap (λ (k : ℕ). is_among before last k) came ∙ among_is before last n more most)

taken_near : (before last n : ℕ) (lane : BridgeLane) (j : Journey) → before < n → n ≤ last → is_taken_in n lane j ≡ true → is_near before last j ≡ true
taken_near before last n lane j more most is =
    let left : j.left ≡ n = eqb-true j.left n (first_true (eqb j.left n) (is_done j.carried) (second_true (same_lane j.lane lane) _ is)) in
    or_second (is_among before last j.came) _
    (or_first (is_among before last j.left) _ (ap (λ (k : ℕ). is_among before last k) left ∙ among_is before last n more most))

presented_near : (before last n : ℕ) (lane : BridgeLane) (o : OpId) (j : Journey) → before < n → n ≤ last → is_presented_in n lane o j ≡ true → is_near before last j ≡ true
presented_near before last n lane o j more most is =
    let stood = second_true (same_lane j.lane lane) _ (first_true (stands_at (n - 1) lane j) (is_of o j.carried) is) in
    let rest = second_true (has_come (n - 1) j) _ stood in
    let standing = second_true (not j.marked) _ rest in
    let come : has_come last j ≡ true = later (n - 1) last j.came (omega (arith, more, most)) (first_true (has_come (n - 1) j) _ stood) in
    let still : not (has_left before j) ≡ true = not_before before (n - 1) j.left (omega (arith, more)) (second_true (can_stand j.carried) _ standing) in
    or_second (is_among before last j.came) _
    (or_second (is_among before last j.left) _
    (and_true (has_come last j) _ come (and_true (not j.marked) _ (first_true (not j.marked) _ rest)
    (and_true (can_stand j.carried) _ (first_true (can_stand j.carried) _ standing) still))))

-- What is found.

module _ (before last n : ℕ) (js : List Journey) (more : before < n) (most : n ≤ last) where
  presented_same : (by : By) (o : OpId) → presented_in n by o (filter (is_near before last) js) ≡ presented_in n by o js
  presented_same Master o = refl
  presented_same (ByLane lane) o = find_kept (is_presented_in n lane o) (is_near before last) (λ j is. presented_near before last n lane o j more most is) js

  item_same : (e : Event) → item_of n e (filter (is_near before last) js) ≡ item_of n e js
  item_same (Act on by o step place) = presented_same by o
  item_same (Arrive lane mark) = find_kept (comes_in n lane) (is_near before last) (λ j is. comes_near before last n lane j more most is) js

  given_same : (place : Place) → given_in n place (filter (is_near before last) js) ≡ given_in n place js
  given_same (Target target) = refl
  given_same (Header bus) = refl
  given_same (Lane lane) = find_kept (is_taken_in n (lane_back lane)) (is_near before last) (λ j is. taken_near before last n (lane_back lane) j more most is) js
  given_same Nobody = refl

  taken_same : (e : Event) → taken_by n e (filter (is_near before last) js) ≡ taken_by n e js
  taken_same (Act on by o step place) = ap (λ (given : Option Journey). cond (is_take step) given None) (given_same place)
  taken_same (Arrive lane mark) = refl

-- what is near some events tells of each of them what all journeys do
pub near_tells : (before last : ℕ) (all near : List Journey) → near ≡ filter (is_near before last) all → TellsRows before last all near
near_tells before last all near is = λ n more most. record {
  item = λ e. ap (λ (js : List Journey). item_of n e js) is ∙ item_same before last n all more most e;
  taken = λ e. ap (λ (js : List Journey). taken_by n e js) is ∙ taken_same before last n all more most e;
}
