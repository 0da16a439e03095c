-- What the journeys have on a lane now, and what each change makes of that.
use Rattle.std.proofs.Common.{◌≡◌, ℕ, ◌<◌, Bool, true, false, not, ◌&&◌, cond, eqb, nat_lt, List, [], ◌∷◌, ◌++◌, map, Some, refl, sym, ap, ◌∙◌, arith, eqb-true}
use Rattle.std.specs.List.{filter, find, AllByRecursion}
use Rattle.std.proofs.lemmas.Bool.Decides.{nat_tests}
use Rattle.list_facts.specs.Lists.{less}
use Rattle.list_facts.proofs.FindLemmas.{find_passes}
use Rattle.pci_command.specs.declared.op_id.OpId.{OpId}
use Rattle.board_model.specs.declared.bridge.Lane.{Lane as BridgeLane}
use Rattle.history_model.specs.declared.item.Carried.{Carried}
use Rattle.history_model.specs.Lanes.{LaneState}
use Rattle.history_model.specs.World.{same_lane}
use Rattle.history_model.proofs.facts.BridgeLemmas.{same_lane_true, same_lane_self}
use Rattle.draw_items.specs.declared.journey.Journey.{Journey}
use Rattle.draw_items.specs.Journeys.{can_stand, flies, stands, is_there}
use Rattle.draw_journeys.specs.Steps.{begins, sends, leaving, leaves, coming, comes, least_free, tracks_on}
use Rattle.draw_journeys.proofs.ChangeLemmas.{change_first, kept, changed_first, kept-append, kept-append_none, kept-change_same, kept-change_less, first-some}
use Rattle.draw_journeys.proofs.OrderLemmas.{InOrder, kept-come, Each-map}

-- what is in flight on a lane, and what stands where it ends
pub record Seen : Type 0 where
  pub flight : List Carried
  pub standing : List Carried

abbrev pub seen_from : List Carried → List Carried → Seen
seen_from flight standing = record { flight = flight; standing = standing }

abbrev pub item_of : Journey → Carried
item_of j = j.carried

abbrev pub sees : BridgeLane → List Journey → Seen
sees l js = seen_from (kept item_of (flies l) js) (kept item_of (stands l) js)

abbrev pub on_lane : LaneState → Seen
on_lane s = seen_from s.flight s.standing

pub seen_same : (f1 f2 s1 s2 : List Carried) → f1 ≡ f2 → s1 ≡ s2 → seen_from f1 s1 ≡ seen_from f2 s2
seen_same f1 f2 s1 s2 flight standing = ap (λ f. seen_from f s1) flight ∙ ap (λ s. seen_from f2 s) standing

-- Tests.

pub first_true : (a b : Bool) → (a && b) ≡ true → a ≡ true
first_true true b is = refl
first_true false b is = cc

pub second_true : (a b : Bool) → (a && b) ≡ true → b ≡ true
second_true true b is = is
second_true false b is = cc

pub and_false : (a : Bool) → (a && false) ≡ false
and_false true = refl
and_false false = refl

pub last_false : (a b c d : Bool) → (a && (b && (c && (d && false)))) ≡ false
last_false false b c d = refl
last_false true false c d = refl
last_false true true false d = refl
last_false true true true false = refl
last_false true true true true = refl

-- a journey that passes a test of one lane is not on another
pub away : (j : Journey) (a l : BridgeLane) → same_lane j.lane a ≡ true → same_lane a l ≡ false → same_lane j.lane l ≡ false
away j a l is other = ap (λ x. same_lane x l) (same_lane_true j.lane a is) ∙ other

pub flies_lane : (a : BridgeLane) (j : Journey) → flies a j ≡ true → same_lane j.lane a ≡ true
flies_lane a j is = first_true (same_lane j.lane a) (eqb j.came 0) is

pub there_stands : (a : BridgeLane) (test : Carried → Bool) (j : Journey) → is_there a test j ≡ true → stands a j ≡ true
there_stands a test j is = first_true (stands a j) (test j.carried) is

pub stands_lane : (a : BridgeLane) (j : Journey) → stands a j ≡ true → same_lane j.lane a ≡ true
stands_lane a j is = first_true (same_lane j.lane a) (nat_lt 0 j.came && (not j.marked && (can_stand j.carried && eqb j.left 0))) is

-- what flies does not stand
pub flies_apart : (a : BridgeLane) (j : Journey) → flies a j ≡ true → stands a j ≡ false
flies_apart a j is =
    let none : j.came ≡ 0 = eqb-true j.came 0 (second_true (same_lane j.lane a) (eqb j.came 0) is) in
    let rest : Bool = not j.marked && (can_stand j.carried && eqb j.left 0) in
    ap (λ (n : ℕ). same_lane j.lane a && (nat_lt 0 n && rest)) none ∙ and_false (same_lane j.lane a)

-- Sending.

begun_flies : (n : ℕ) (l : BridgeLane) (o : OpId) (item : Carried) → flies l (begins n l o item) ≡ true
begun_flies n l o item = ap (λ (b : Bool). b && true) (same_lane_self l)

begun_other : (n : ℕ) (a l : BridgeLane) (o : OpId) (item : Carried) → same_lane a l ≡ false → flies l (begins n a o item) ≡ false
begun_other n a l o item other = ap (λ (b : Bool). b && true) other

pub begun_stands : (n : ℕ) (a l : BridgeLane) (o : OpId) (item : Carried) → stands l (begins n a o item) ≡ false
begun_stands n a l o item = and_false (same_lane a l)

all_begin : (n : ℕ) (l : BridgeLane) (o : OpId) (items : List Carried) → kept item_of (flies l) (map (begins n l o) items) ≡ items
all_begin n l o [] = refl
all_begin n l o (item ∷ items) =
    let rest : List Journey = filter (flies l) (map (begins n l o) items) in
    ap (λ (b : Bool). map item_of (cond b (begins n l o item ∷ rest) rest)) (begun_flies n l o item) ∙ ap (λ (xs : List Carried). item ∷ xs) (all_begin n l o items)

pub none_stand : (n : ℕ) (a l : BridgeLane) (o : OpId) (items : List Carried) → AllByRecursion (λ j. stands l j ≡ false) (map (begins n a o) items)
none_stand n a l o items = Each-map (λ j. stands l j ≡ false) (begins n a o) (λ item. begun_stands n a l o item) items

pub sees_sends_here : (n : ℕ) (l : BridgeLane) (o : OpId) (items : List Carried) (js : List Journey) → sees l (sends n l o items js) ≡ seen_from ((sees l js).flight ++ items) (sees l js).standing
sees_sends_here n l o items js =
    let new : List Journey = map (begins n l o) items in
    seen_same _ _ _ _
    (kept-append item_of (flies l) js new ∙ ap (λ (xs : List Carried). kept item_of (flies l) js ++ xs) (all_begin n l o items))
    (kept-append_none item_of (stands l) js new (none_stand n l l o items))

pub sees_sends_other : (n : ℕ) (a l : BridgeLane) (o : OpId) (items : List Carried) (js : List Journey) → same_lane a l ≡ false → sees l (sends n a o items js) ≡ sees l js
sees_sends_other n a l o items js other =
    let new : List Journey = map (begins n a o) items in
    seen_same _ _ _ _
    (kept-append_none item_of (flies l) js new (Each-map (λ j. flies l j ≡ false) (begins n a o) (λ item. begun_other n a l o item other) items))
    (kept-append_none item_of (stands l) js new (none_stand n a l o items))

-- Leaving.

pub left_stands : (n : ℕ) (l : BridgeLane) (j : Journey) → 0 < n → stands l (leaving n j) ≡ false
left_stands n l j some =
    let not_yet : eqb n 0 ≡ false = grind (arith, nat_tests) in
    ap (λ (b : Bool). same_lane j.lane l && (nat_lt 0 j.came && (not j.marked && (can_stand j.carried && b)))) not_yet
    ∙ last_false (same_lane j.lane l) (nat_lt 0 j.came) (not j.marked) (can_stand j.carried)

pub leaves_first : (n : ℕ) (a : BridgeLane) (test : Carried → Bool) (js : List Journey) → leaves n a test js ≡ change_first (is_there a test) (leaving n) js
leaves_first n a test js = changed_first (is_there a test) (leaving n) js

pub sees_leaves_here : (n : ℕ) (l : BridgeLane) (test : Carried → Bool) (js : List Journey) → 0 < n → sees l (leaves n l test js) ≡ seen_from (sees l js).flight (less test (sees l js).standing)
sees_leaves_here n l test js some =
    ap (λ xs. sees l xs) (leaves_first n l test js)
    ∙ seen_same _ _ _ _
    (kept-change_same item_of (flies l) (is_there l test) (leaving n) (λ j _. (refl, refl)) js)
    (kept-change_less item_of (stands l) test (leaving n) (λ j. left_stands n l j some) js)

pub sees_leaves_other : (n : ℕ) (a l : BridgeLane) (test : Carried → Bool) (js : List Journey) → same_lane a l ≡ false → sees l (leaves n a test js) ≡ sees l js
sees_leaves_other n a l test js other =
    let rest : Journey → Bool = λ j. nat_lt 0 j.came && (not j.marked && (can_stand j.carried && eqb j.left 0)) in
    let out : (j : Journey) → is_there a test j ≡ true → same_lane j.lane l ≡ false = λ j is. away j a l (stands_lane a j (there_stands a test j is)) other in
    ap (λ xs. sees l xs) (leaves_first n a test js)
    ∙ seen_same _ _ _ _
    (kept-change_same item_of (flies l) (is_there a test) (leaving n) (λ j _. (refl, refl)) js)
    (kept-change_same item_of (stands l) (is_there a test) (leaving n)
    (λ j is. (ap (λ (b : Bool). b && rest (leaving n j)) (out j is) ∙ sym (ap (λ (b : Bool). b && rest j) (out j is)), refl)) js)

-- Coming.

pub came_flies : (n : ℕ) (lost : Bool) (track : ℕ) (l : BridgeLane) (j : Journey) → 0 < n → flies l (coming n lost track j) ≡ false
came_flies n lost track l j some =
    let not_yet : eqb n 0 ≡ false = grind (arith, nat_tests) in
    ap (λ (b : Bool). same_lane j.lane l && b) not_yet ∙ and_false (same_lane j.lane l)

pub comes_first : (n : ℕ) (a : BridgeLane) (lost : Bool) (js : List Journey) → comes n a lost js ≡ change_first (flies a) (coming n lost (least_free (tracks_on a js))) js
comes_first n a lost js = changed_first (flies a) (coming n lost (least_free (tracks_on a js))) js

-- what stands of an item that comes so
abbrev pub stood : Bool → Carried → List Carried
stood lost item = cond (not (lost && can_stand item) && (can_stand item && true)) (item ∷ []) []

came_stands : (n : ℕ) (lost : Bool) (track : ℕ) (l : BridgeLane) (j : Journey) → 0 < n → flies l j ≡ true → stands l (coming n lost track j) ≡ (not (lost && can_stand j.carried) && (can_stand j.carried && true))
came_stands n lost track l j some is =
    let rest : Bool = not (lost && can_stand j.carried) && (can_stand j.carried && true) in
    let come : nat_lt 0 n ≡ true = grind (arith, nat_tests) in
    ap (λ (b : Bool). b && (nat_lt 0 n && rest)) (flies_lane l j is) ∙ ap (λ (b : Bool). b && rest) come

pub sees_comes_here : (n : ℕ) (l : BridgeLane) (lost : Bool) (js : List Journey) (j : Journey) → 0 < n → InOrder (flies l) (stands l) js → find (flies l) js ≡ Some j
    → ((sees l js).flight ≡ j.carried ∷ (sees l (comes n l lost js)).flight) × ((sees l (comes n l lost js)).standing ≡ (sees l js).standing ++ stood lost j.carried)
sees_comes_here n l lost js j some order found =
    let track : ℕ = least_free (tracks_on l js) in
    let f : Journey → Journey = coming n lost track in
    let is : flies l j ≡ true = find_passes (flies l) js j found in
    let first = comes_first n l lost js in (
      first-some item_of (flies l) f (λ k. came_flies n lost track l k some) js j found ∙ ap (λ xs. j.carried ∷ kept item_of (flies l) xs) (sym first),
      ap (λ xs. kept item_of (stands l) xs) first ∙ kept-come item_of (flies l) (stands l) f (flies_apart l) js order j found
          ∙ ap (λ (b : Bool). kept item_of (stands l) js ++ cond b (j.carried ∷ []) []) (came_stands n lost track l j some is),
    )

pub sees_comes_other : (n : ℕ) (a l : BridgeLane) (lost : Bool) (js : List Journey) → same_lane a l ≡ false → sees l (comes n a lost js) ≡ sees l js
sees_comes_other n a l lost js other =
    let f : Journey → Journey = coming n lost (least_free (tracks_on a js)) in
    let flying : Journey → Bool = λ j. eqb j.came 0 in
    let rest : Journey → Bool = λ j. nat_lt 0 j.came && (not j.marked && (can_stand j.carried && eqb j.left 0)) in
    let out : (j : Journey) → flies a j ≡ true → same_lane j.lane l ≡ false = λ j is. away j a l (flies_lane a j is) other in
    ap (λ xs. sees l xs) (comes_first n a lost js)
    ∙ seen_same _ _ _ _
    (kept-change_same item_of (flies l) (flies a) f (λ j is. (ap (λ (b : Bool). b && flying (f j)) (out j is) ∙ sym (ap (λ (b : Bool). b && flying j) (out j is)), refl)) js)
    (kept-change_same item_of (stands l) (flies a) f (λ j is. (ap (λ (b : Bool). b && rest (f j)) (out j is) ∙ sym (ap (λ (b : Bool). b && rest j) (out j is)), refl)) js)
