-- What each change keeps, an event keeps: the order, the past, and that nothing is later.
use Rattle.std.proofs.Common.{◌≡◌, ℕ, ◌+◌, ◌<◌, ◌≤◌, Bool, true, false, not, ◌&&◌, eqb, nat_lt, nat_le, List, [], ◌∷◌, map, refl, sym, ap, subst, ◌∙◌, arith, eqb-true}
use Rattle.std.specs.List.{AllByRecursion}
use Rattle.std.proofs.lemmas.Bool.Decides.{nat_tests}
use Rattle.list_facts.proofs.EachLemmas.{Each-append, Each-weaker}
use Rattle.pci_command.specs.declared.op_id.OpId.{OpId}
use Rattle.board_model.specs.declared.bridge.Lane.{Lane as BridgeLane}
use Rattle.board_model.specs.declared.board.Board.{Board}
use Rattle.history_model.specs.declared.event.Event.{Event}
use Rattle.history_model.specs.declared.item.Carried.{Carried}
use Rattle.history_model.specs.declared.item.Move.{Move}
use Rattle.history_model.specs.declared.item.Move.TheVariants.{Sent, Came, Lost, Left, Held, Freed, Owed, Paid}
use Rattle.history_model.specs.declared.rule.Rule.TheVariants.{Tagged}
use Rattle.history_model.specs.World.{World, same_lane}
use Rattle.history_model.specs.Moves.{is_like, moved_by, moves_in}
use Rattle.history_model.proofs.facts.BridgeLemmas.{same_lane_true}
use Rattle.draw_items.specs.declared.journey.Journey.{Journey}
use Rattle.draw_items.specs.Journeys.{can_stand, has_come, has_left, flies_at, stands_at, flies, stands, is_there}
use Rattle.draw_journeys.specs.Journeys.{IsWithin}
use Rattle.draw_journeys.specs.Steps.{begins, sends, leaving, leaves, coming, comes, least_free, tracks_on, move_on, moves_on, next}
use Rattle.draw_journeys.proofs.ChangeLemmas.{change_first, kept, kept-append_none, kept-change_same}
use Rattle.draw_journeys.proofs.OrderLemmas.{InOrder, order-append, order-none, order-change, order-come, filter-agree, Each-change, Each-map}
use Rattle.draw_journeys.proofs.SeenLemmas.{Seen, seen_from, seen_same, item_of, sees, first_true, second_true, and_false, away, flies_lane, there_stands, none_stand, left_stands, leaves_first, came_flies, comes_first}

-- a fact of journeys that each change keeps, of an event of this number
pub record KeptBy (n : ℕ) (P : List Journey → Type 0) : Type 0 where
  pub sends : (a : BridgeLane) (o : OpId) (items : List Carried) (js : List Journey) → P js → P (sends n a o items js)
  pub leaves : (a : BridgeLane) (test : Carried → Bool) (js : List Journey) → P js → P (leaves n a test js)
  pub comes : (a : BridgeLane) (lost : Bool) (js : List Journey) → P js → P (comes n a lost js)

pub move_keeps : (n : ℕ) (P : List Journey → Type 0) → KeptBy n P → (move : Move) (js : List Journey) → P js → P (move_on n move js)
move_keeps n P keeps (Sent lane o item) js holds = keeps.sends lane o (item ∷ []) js holds
move_keeps n P keeps (Came lane item) js holds = keeps.comes lane false js holds
move_keeps n P keeps (Lost lane item) js holds = keeps.comes lane true js holds
move_keeps n P keeps (Left lane item) js holds = keeps.leaves lane (is_like item) js holds
move_keeps n P keeps (Held lane slot) js holds = holds
move_keeps n P keeps (Freed lane number) js holds = holds
move_keeps n P keeps (Owed lane) js holds = holds
move_keeps n P keeps (Paid lane) js holds = holds

moves_keep : (n : ℕ) (P : List Journey → Type 0) → KeptBy n P → (moves : List Move) (js : List Journey) → P js → P (moves_on n moves js)
moves_keep n P keeps [] js holds = holds
moves_keep n P keeps (move ∷ moves) js holds = moves_keep n P keeps moves (move_on n move js) (move_keeps n P keeps move js holds)

pub next_keeps : (board : Board) (world : World) (n : ℕ) (P : List Journey → Type 0) → KeptBy n P → (e : Event) (js : List Journey) → P js → P (next board world n e js)
next_keeps board world n P keeps e js holds = moves_keep n P keeps (moves_in Tagged board e (moved_by Tagged board world e)) js holds

-- The order: on each lane, behind one that flies none stands.

abbrev pub Ordered : List Journey → Type 0
Ordered js = (l : BridgeLane) → InOrder (flies l) (stands l) js

order_sends : (n : ℕ) (a : BridgeLane) (o : OpId) (items : List Carried) (js : List Journey) → Ordered js → Ordered (sends n a o items js)
order_sends n a o items js order l =
    let new = order-none (flies l) (stands l) (map (begins n a o) items) (none_stand n a l o items) in
    order-append (flies l) (stands l) js (map (begins n a o) items) (order l) new.0 new.1

order_leaves : (n : ℕ) (a : BridgeLane) (test : Carried → Bool) (js : List Journey) → 0 < n → Ordered js → Ordered (leaves n a test js)
order_leaves n a test js some order l =
    let out : (j : Journey) → is_there a test j ≡ true → stands l (leaving n j) ≡ true → stands l j ≡ true = λ j _ passes. (let wrong : stands l (leaving n j) ≡ false = left_stands n l j some in cc) in
    subst (λ xs. InOrder (flies l) (stands l) xs) (sym (leaves_first n a test js)) (order-change (flies l) (stands l) (is_there a test) (leaving n) (λ j _ passes. passes) out js (order l))

order_comes : (n : ℕ) (a : BridgeLane) (lost : Bool) (js : List Journey) → 0 < n → Ordered js → Ordered (comes n a lost js)
order_comes n a lost js some order l =
    let track : ℕ = least_free (tracks_on a js) in
    let f : Journey → Journey = coming n lost track in
    let new : List Journey = change_first (flies a) f js in
    let gone : (k : BridgeLane) (j : Journey) → flies k (f j) ≡ false = λ k j. came_flies n lost track k j some in
    let P : Bool → Type 0 = λ b. same_lane a l ≡ b → InOrder (flies l) (stands l) new in
    let ordered : InOrder (flies l) (stands l) new = (elim (same_lane a l) as P [
      | true ↦ λ same. subst (λ k. InOrder (flies k) (stands k) new) (same_lane_true a l same) (order-come (flies a) (stands a) f (gone a) js (order a))
      | false ↦ λ other. order-change (flies l) (stands l) (flies a) f
          (λ j _ passes. (let wrong : flies l (f j) ≡ false = gone l j in cc))
          (λ j is passes. (
          let here : same_lane j.lane l ≡ true = first_true (same_lane j.lane l) _ passes in
          let out : same_lane j.lane l ≡ false = away j a l (flies_lane a j is) other in cc
          )) js (order l)
    ]) refl in
    subst (λ xs. InOrder (flies l) (stands l) xs) (sym (comes_first n a lost js)) ordered

pub order_keeps : (n : ℕ) → 0 < n → KeptBy n Ordered
order_keeps n some = record {
  sends = λ a o items js order. order_sends n a o items js order;
  leaves = λ a test js order. order_leaves n a test js some order;
  comes = λ a lost js order. order_comes n a lost js some order;
}

-- The past: an event changes nothing of what was seen after fewer events.

abbrev pub sees_at : ℕ → BridgeLane → List Journey → Seen
sees_at m l js = seen_from (kept item_of (flies_at m l) js) (kept item_of (stands_at m l) js)

past_sends : (m n : ℕ) (l a : BridgeLane) (o : OpId) (items : List Carried) (js : List Journey) → m < n → sees_at m l (sends n a o items js) ≡ sees_at m l js
past_sends m n l a o items js before =
    let later : nat_le n m ≡ false = grind (arith, nat_tests) in
    let flown : (item : Carried) → flies_at m l (begins n a o item) ≡ false = λ item. ap (λ (b : Bool). same_lane a l && (b && true)) later ∙ and_false (same_lane a l) in
    seen_same _ _ _ _
    (kept-append_none item_of (flies_at m l) js (map (begins n a o) items) (Each-map (λ j. flies_at m l j ≡ false) (begins n a o) flown items))
    (kept-append_none item_of (stands_at m l) js (map (begins n a o) items) (Each-map (λ j. stands_at m l j ≡ false) (begins n a o) (λ item. and_false (same_lane a l)) items))

-- of a number of no event so far, and of a later one
not_yet : (m n : ℕ) → m < n → (nat_lt 0 n && nat_le n m) ≡ false
not_yet m n before =
    let later : nat_le n m ≡ false = grind (arith, nat_tests) in
    ap (λ (b : Bool). nat_lt 0 n && b) later ∙ and_false (nat_lt 0 n)

never : (m n : ℕ) → eqb n 0 ≡ true → (nat_lt 0 n && nat_le n m) ≡ false
never m n none = ap (λ (k : ℕ). nat_lt 0 k && nat_le k m) (eqb-true n 0 none)

past_leaves : (m n : ℕ) (l a : BridgeLane) (test : Carried → Bool) (js : List Journey) → m < n → sees_at m l (leaves n a test js) ≡ sees_at m l js
past_leaves m n l a test js before =
    let stays : (j : Journey) → is_there a test j ≡ true → eqb j.left 0 ≡ true = λ j is.
    second_true (can_stand j.carried) _ (second_true (not j.marked) _ (second_true (nat_lt 0 j.came) _ (second_true (same_lane j.lane a) _ (there_stands a test j is)))) in
    let side : Journey → Bool → Bool = λ j b. same_lane j.lane l && (has_come m j && (not j.marked && (can_stand j.carried && not b))) in
    ap (λ xs. sees_at m l xs) (leaves_first n a test js)
    ∙ seen_same _ _ _ _
    (kept-change_same item_of (flies_at m l) (is_there a test) (leaving n) (λ j _. (refl, refl)) js)
    (kept-change_same item_of (stands_at m l) (is_there a test) (leaving n) (λ j is. (ap (side j) (not_yet m n before) ∙ sym (ap (side j) (never m j.left (stays j is))), refl)) js)

past_comes : (m n : ℕ) (l a : BridgeLane) (lost : Bool) (js : List Journey) → m < n → sees_at m l (comes n a lost js) ≡ sees_at m l js
past_comes m n l a lost js before =
    let f : Journey → Journey = coming n lost (least_free (tracks_on a js)) in
    let none : (j : Journey) → flies a j ≡ true → has_come m j ≡ false = λ j is. never m j.came (second_true (same_lane j.lane a) _ is) in
    let side : Journey → Bool → Bool = λ j b. same_lane j.lane l && (nat_le j.sent m && not b) in
    let rest : Journey → Bool = λ j. not j.marked && (can_stand j.carried && not (has_left m j)) in
    let out : (j : Journey) (b : Bool) → b ≡ false → (same_lane j.lane l && (b && rest j)) ≡ false = λ j b is. ap (λ (t : Bool). same_lane j.lane l && (t && rest j)) is ∙ and_false (same_lane j.lane l) in
    ap (λ xs. sees_at m l xs) (comes_first n a lost js)
    ∙ seen_same _ _ _ _
    (kept-change_same item_of (flies_at m l) (flies a) f (λ j is. (ap (side j) (not_yet m n before) ∙ sym (ap (side j) (none j is)), refl)) js)
    (kept-change_same item_of (stands_at m l) (flies a) f (λ j is. (out (f j) (has_come m (f j)) (not_yet m n before) ∙ sym (out j (has_come m j) (none j is)), refl)) js)

-- what was seen after m events is this
abbrev pub Saw : ℕ → BridgeLane → Seen → List Journey → Type 0
Saw m l seen js = sees_at m l js ≡ seen

pub past_keeps : (m n : ℕ) (l : BridgeLane) (seen : Seen) → m < n → KeptBy n (Saw m l seen)
past_keeps m n l seen before = record {
  sends = λ a o items js saw. past_sends m n l a o items js before ∙ saw;
  leaves = λ a test js saw. past_leaves m n l a test js before ∙ saw;
  comes = λ a lost js saw. past_comes m n l a lost js before ∙ saw;
}

-- Nothing is later than this event.

abbrev pub Within : ℕ → List Journey → Type 0
Within n js = AllByRecursion (IsWithin n) js

pub within_keeps : (n : ℕ) → KeptBy n (Within n)
within_keeps n = record {
  sends = λ a o items js within. Each-append (IsWithin n) js (map (begins n a o) items) within
      (Each-map (IsWithin n) (begins n a o) (λ item. record { sent = omega arith; came = omega arith; left = omega arith }) items);
  leaves = λ a test js within. subst (Within n) (sym (leaves_first n a test js))
      (Each-change (IsWithin n) (is_there a test) (leaving n) (λ j is. record { sent = is.sent; came = is.came; left = omega arith }) js within);
  comes = λ a lost js within. subst (Within n) (sym (comes_first n a lost js))
      (Each-change (IsWithin n) (flies a) (coming n lost (least_free (tracks_on a js))) (λ j is. record { sent = is.sent; came = omega arith; left = omega arith }) js within);
}

pub within_more : (n : ℕ) (js : List Journey) → Within n js → Within (n + 1) js
within_more n js within = Each-weaker (IsWithin n) (IsWithin (n + 1)) (λ j is. record { sent = omega (arith, is.sent); came = omega (arith, is.came); left = omega (arith, is.left) }) js within

-- behind all events what was seen is what is there now
come_is : (n k : ℕ) → k ≤ n → (nat_lt 0 k && nat_le k n) ≡ nat_lt 0 k
come_is n k below =
    let within : nat_le k n ≡ true = grind (arith, nat_tests) in
    let P : Bool → Type 0 = λ b. (b && true) ≡ b in
    ap (λ (b : Bool). nat_lt 0 k && b) within ∙ (elim (nat_lt 0 k) as P [ true ↦ refl | false ↦ refl ])

none_is : (k : ℕ) → not (nat_lt 0 k) ≡ eqb k 0
none_is k = grind (arith, nat_tests)

flies_now : (n : ℕ) (l : BridgeLane) (j : Journey) → IsWithin n j → flies_at n l j ≡ flies l j
flies_now n l j is =
    let sent : nat_le j.sent n ≡ true = let e = is.sent in grind (arith, nat_tests) in
    ap (λ (b : Bool). same_lane j.lane l && (b && not (has_come n j))) sent
    ∙ ap (λ (b : Bool). same_lane j.lane l && not b) (come_is n j.came is.came)
    ∙ ap (λ (b : Bool). same_lane j.lane l && b) (none_is j.came)

stands_now : (n : ℕ) (l : BridgeLane) (j : Journey) → IsWithin n j → stands_at n l j ≡ stands l j
stands_now n l j is =
    ap (λ (b : Bool). same_lane j.lane l && (b && (not j.marked && (can_stand j.carried && not (has_left n j))))) (come_is n j.came is.came)
    ∙ ap (λ (b : Bool). same_lane j.lane l && (nat_lt 0 j.came && (not j.marked && (can_stand j.carried && not b)))) (come_is n j.left is.left)
    ∙ ap (λ (b : Bool). same_lane j.lane l && (nat_lt 0 j.came && (not j.marked && (can_stand j.carried && b)))) (none_is j.left)

pub sees_now : (n : ℕ) (l : BridgeLane) (js : List Journey) → Within n js → sees_at n l js ≡ sees l js
sees_now n l js within =
    seen_same _ _ _ _
    (ap (λ xs. map item_of xs) (filter-agree (IsWithin n) (flies_at n l) (flies l) (flies_now n l) js within))
    (ap (λ xs. map item_of xs) (filter-agree (IsWithin n) (stands_at n l) (stands l) (stands_now n l) js within))
