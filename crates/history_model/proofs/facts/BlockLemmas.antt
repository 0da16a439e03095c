-- The addresses of a write in memory lie in one aligned block of 64 bytes, and no range or window begins or ends
-- inside of one: so all are claimed by one.
use Rattle.std.proofs.Common.{◌≡◌, ℕ, ◌+◌, ◌*◌, ◌/◌, ◌%◌, ◌^◌, ◌<◌, ◌≤◌, Bool, true, false, ◌&&◌, ◌||◌, ◌==◌, cond, eqb, nat_le, nat_lt, List, [], ◌∷◌, Option, Some, None, refl, sym, ap, ◌∙◌, arith}
use Rattle.std.specs.List.{find, list_all, list_any, position_from, AllByRecursion}
use Rattle.std.proofs.lemmas.Bool.{leb-true, le-leb, ltb-true, lt-ltb}
use Rattle.std.proofs.lemmas.Bool.Decides.{nat_tests}
use Rattle.list_facts.proofs.EachLemmas.{Each-find, Each-weaker}
use Rattle.list_facts.proofs.TestLemmas.{Each-list_all}
use Rattle.pci_command.specs.declared.command.Space.{Space}
use Rattle.pci_command.specs.declared.command.Space.TheVariants.{Mem, Io, Cfg}
use Rattle.pci_command.specs.Same.{same_space}
use Rattle.board_model.specs.declared.agents.Range.{Range}
use Rattle.board_model.specs.declared.agents.Target.{Target as TargetAgent}
use Rattle.board_model.specs.declared.bridge.Window.{Window}
use Rattle.board_model.specs.declared.bridge.Bridge.{Bridge}
use Rattle.board_model.specs.declared.bridge.Place.TheVariants.{Lane, Nobody}
use Rattle.board_model.specs.declared.board.Board.{Board}
use Rattle.board_model.specs.Claims.{range_holds, window_holds, bridge_holds, decodes_down, claim_upwards, claim_by_bridge, claim_by_address, claim_in_space}
use Rattle.board_model.specs.WellFormed.{is_window, is_well_formed_bridge, is_range_in, is_well_formed_range, is_well_formed_target, has_bus}
use Rattle.board_model.proofs.Laws.{Window-parts, Bridge-parts, Block-parts, Target-parts}
use Rattle.history_model.specs.Answers.{bridge_to}

-- two addresses in one aligned block of 64 bytes
pub record SameBlock (a b : ℕ) : Type 0 where
  pub block : ℕ
  pub a_from : 64 * block ≤ a
  pub a_to : a < 64 * block + 64
  pub b_from : 64 * block ≤ b
  pub b_to : b < 64 * block + 64

-- a multiple of 64
record Edge (e : ℕ) : Type 0 where
  count : ℕ
  is : e ≡ 64 * count

alike : (x y : Bool) → (x ≡ true → y ≡ true) → (y ≡ true → x ≡ true) → x ≡ y
alike true true there back = refl
alike true false there back = sym (there refl)
alike false true there back = back refl
alike false false there back = refl

from_edge : (a b e : ℕ) → SameBlock a b → Edge e → nat_le e a ≡ nat_le e b
from_edge a b e same edge =
    alike (nat_le e a) (nat_le e b)
    (λ is. le-leb e b (omega (arith, leb-true e a is, same.a_to, same.b_from, edge.is)))
    (λ is. le-leb e a (omega (arith, leb-true e b is, same.b_to, same.a_from, edge.is)))

below_edge : (a b e : ℕ) → SameBlock a b → Edge e → nat_lt a e ≡ nat_lt b e
below_edge a b e same edge =
    alike (nat_lt a e) (nat_lt b e)
    (λ is. lt-ltb b e (omega (arith, ltb-true a e is, same.a_from, same.b_to, edge.is)))
    (λ is. lt-ltb a e (omega (arith, ltb-true b e is, same.b_from, same.a_to, edge.is)))

up_to_edge : (a b e : ℕ) → SameBlock a b → Edge (e + 1) → nat_le a e ≡ nat_le b e
up_to_edge a b e same edge =
    alike (nat_le a e) (nat_le b e)
    (λ is. le-leb b e (omega (arith, leb-true a e is, same.a_from, same.b_to, edge.is)))
    (λ is. le-leb a e (omega (arith, leb-true b e is, same.b_from, same.a_to, edge.is)))

edge_64 : (e : ℕ) → eqb (e % 64) 0 ≡ true → Edge e
edge_64 e is = let none : e % 64 ≡ 0 = grind (arith, nat_tests) in record { count = e / 64; is = omega (arith, none) }

edge_mega : (e : ℕ) → eqb (e % (2 ^ 20)) 0 ≡ true → Edge e
edge_mega e is =
    let none : e % 1048576 ≡ 0 = grind (arith, nat_tests) in
    record { count = 16384 * (e / 1048576); is = omega (arith, none) }

edge_sum : (a b : ℕ) → Edge a → Edge b → Edge (a + b)
edge_sum a b x y = record { count = x.count + y.count; is = omega (arith, x.is, y.is) }

and_alike : (x y z w : Bool) → x ≡ y → z ≡ w → (x && z) ≡ (y && w)
and_alike x y z w first second = cc

or_alike : (x y z w : Bool) → x ≡ y → z ≡ w → (x || z) ≡ (y || w)
or_alike x y z w first second = cc

-- a range
range_alike : (range : Range) (a b : ℕ) → SameBlock a b → is_well_formed_range range ≡ true → range_holds Mem a range ≡ range_holds Mem b range
range_alike range a b same formed =
    let end : ℕ = range.base + range.size in
    let P : Space → Type 0 = λ space. is_range_in space range ≡ true → (same_space space Mem && nat_le range.base a && nat_lt a end) ≡ (same_space space Mem && nat_le range.base b && nat_lt b end) in
    (elim range.space as P [
      | Mem ↦ λ block.
          let form = Block-parts 64 (2 ^ 64) range block in
          let base = edge_64 range.base form.base in
          let size = edge_64 range.size form.size in
          let from : nat_le range.base a ≡ nat_le range.base b = from_edge a b range.base same base in
          let to : nat_lt a end ≡ nat_lt b end = below_edge a b end same (edge_sum range.base range.size base size) in
          cc
      | Io ↦ λ _. refl
      | Cfg ↦ λ _. refl
    ]) formed

-- a window
window_alike : (window : Option Window) (end a b : ℕ) → SameBlock a b → is_window (2 ^ 20) end window ≡ true → window_holds a window ≡ window_holds b window
window_alike None end a b same formed = refl
window_alike (Some window) end a b same formed =
    let form = Window-parts (2 ^ 20) end window formed in
    let from : nat_le window.base a ≡ nat_le window.base b = from_edge a b window.base same (edge_mega window.base form.base) in
    let to : nat_le a window.limit ≡ nat_le b window.limit = up_to_edge a b window.limit same (edge_mega (window.limit + 1) form.limit) in
    and_alike (nat_le window.base a) (nat_le window.base b) (nat_le a window.limit) (nat_le b window.limit) from to

bridge_alike : (bridge : Bridge) (a b : ℕ) → SameBlock a b → is_well_formed_bridge bridge ≡ true → bridge_holds Mem a bridge ≡ bridge_holds Mem b bridge
bridge_alike bridge a b same formed =
    let form = Bridge-parts bridge formed in
    let one : window_holds a bridge.mem ≡ window_holds b bridge.mem = window_alike bridge.mem (2 ^ 32) a b same form.mem in
    let other : window_holds a bridge.pref ≡ window_holds b bridge.pref = window_alike bridge.pref (2 ^ 64) a b same form.pref in
    or_alike (window_holds a bridge.mem) (window_holds b bridge.mem) (window_holds a bridge.pref) (window_holds b bridge.pref) one other

-- two tests that agree on each element of a list
any_alike : {X : Type 0} (f g : X → Bool) (xs : List X) → AllByRecursion (λ x. f x ≡ g x) xs → list_any f xs ≡ list_any g xs
any_alike f g [] each = refl
any_alike f g (x ∷ xs) each = let here = each.0 in let later = any_alike f g xs each.1 in cc

find_alike : {X : Type 0} (f g : X → Bool) (xs : List X) → AllByRecursion (λ x. f x ≡ g x) xs → find f xs ≡ find g xs
find_alike f g [] each = refl
find_alike f g (x ∷ xs) each = let here = each.0 in let later = find_alike f g xs each.1 in cc

position_alike : {X : Type 0} (f g : X → Bool) (place : ℕ) (xs : List X) → AllByRecursion (λ x. f x ≡ g x) xs → position_from f place xs ≡ position_from g place xs
position_alike f g place [] each = refl
position_alike f g place (x ∷ xs) each = let here = each.0 in let later = position_alike f g (place + 1) xs each.1 in cc

target_alike : (bus : ℕ) (target : TargetAgent) (a b : ℕ) → SameBlock a b → is_well_formed_target target ≡ true
    → (target.bus == bus && list_any (range_holds Mem a) target.ranges) ≡ (target.bus == bus && list_any (range_holds Mem b) target.ranges)
target_alike bus target a b same formed =
    let each = Each-weaker (λ (r : Range). is_well_formed_range r ≡ true) (λ (r : Range). range_holds Mem a r ≡ range_holds Mem b r) (λ r well. range_alike r a b same well) target.ranges
    (Each-list_all is_well_formed_range target.ranges (Target-parts target formed).ranges) in
    ap (λ x. target.bus == bus && x) (any_alike (range_holds Mem a) (range_holds Mem b) target.ranges each)

-- the abort ranges of a target
pub aborts_alike : (target : TargetAgent) (a b : ℕ) → SameBlock a b → is_well_formed_target target ≡ true → list_any (range_holds Mem a) target.aborts ≡ list_any (range_holds Mem b) target.aborts
aborts_alike target a b same formed =
    any_alike (range_holds Mem a) (range_holds Mem b) target.aborts
    (Each-weaker (λ (r : Range). is_well_formed_range r ≡ true) (λ (r : Range). range_holds Mem a r ≡ range_holds Mem b r) (λ r well. range_alike r a b same well) target.aborts
    (Each-list_all is_well_formed_range target.aborts (Target-parts target formed).aborts))

module _ (board : Board) (bridges : list_all is_well_formed_bridge board.bridges ≡ true) (targets : list_all is_well_formed_target board.targets ≡ true) (bus a b : ℕ) (same : SameBlock a b) where
  formed_bridges : AllByRecursion (λ (bridge : Bridge). is_well_formed_bridge bridge ≡ true) board.bridges
  formed_bridges = Each-list_all is_well_formed_bridge board.bridges bridges

  up_alike : (own : Option Bridge) → bridge_to board bus ≡ own → claim_upwards bus Mem a own ≡ claim_upwards bus Mem b own
  up_alike None is = refl
  up_alike (Some own) is =
      let formed : is_well_formed_bridge own ≡ true = Each-find (λ (bridge : Bridge). is_well_formed_bridge bridge ≡ true) (has_bus bus) board.bridges own formed_bridges is in
      ap (λ holds. cond holds Nobody (Lane (record { bus = bus; up = true }))) (bridge_alike own a b same formed)

  down_alike : (child : Option Bridge) → claim_by_bridge board bus Mem a child ≡ claim_by_bridge board bus Mem b child
  down_alike (Some child) = refl
  down_alike None = up_alike (bridge_to board bus) refl

  address_alike : (target : Option ℕ) → claim_by_address board bus Mem a target ≡ claim_by_address board bus Mem b target
  address_alike (Some target) = refl
  address_alike None =
      let each = Each-weaker (λ (bridge : Bridge). is_well_formed_bridge bridge ≡ true) (λ (bridge : Bridge). decodes_down bus Mem a bridge ≡ decodes_down bus Mem b bridge)
      (λ bridge formed. ap (λ holds. bridge.parent == bus && holds) (bridge_alike bridge a b same formed)) board.bridges formed_bridges in
      down_alike (find (decodes_down bus Mem a) board.bridges)
      ∙ ap (claim_by_bridge board bus Mem b) (find_alike (decodes_down bus Mem a) (decodes_down bus Mem b) board.bridges each)

  pub claim_alike : claim_in_space board bus Mem a ≡ claim_in_space board bus Mem b
  claim_alike =
      let f : TargetAgent → Bool = λ target. target.bus == bus && list_any (range_holds Mem a) target.ranges in
      let g : TargetAgent → Bool = λ target. target.bus == bus && list_any (range_holds Mem b) target.ranges in
      let each = Each-weaker (λ (target : TargetAgent). is_well_formed_target target ≡ true) (λ target. f target ≡ g target)
      (λ target formed. target_alike bus target a b same formed) board.targets (Each-list_all is_well_formed_target board.targets targets) in
      address_alike (position_from f 0 board.targets) ∙ ap (claim_by_address board bus Mem b) (position_alike f g 0 board.targets each)
