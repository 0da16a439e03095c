-- Writes of a word that land in one order: no two of them are open, and those before a read stand in it as they do among all.
use Rattle.std.proofs.Common.{◌≡◌, Bool, true, false, not, ◌&&◌, ◌||◌, cond, List, [], ◌∷◌, map, Some, None, refl, sym, ap, subst, ◌∙◌}
use Rattle.std.specs.List.{filter, find, list_any, AllByRecursion}
use Rattle.std.proofs.lemmas.Bool.{and_parts, or_left, or_right}
use Rattle.std.proofs.lemmas.Option.{none-some}
use Rattle.list_facts.proofs.AnyLemmas.{any_none}
use Rattle.list_facts.proofs.EachLemmas.{Each-weaker, Each-both}
use Rattle.pci_command.specs.declared.op_id.OpId.{OpId}
use Rattle.pci_command.specs.Same.{same_op}
use Rattle.board_model.specs.declared.board.Board.{Board}
use Rattle.board_model.specs.Ways.{Dword}
use Rattle.history_model.proofs.facts.RequestLemmas.{same_op_self}
use Rattle.safe_model.specs.Clocks.{Table}
use Rattle.safe_model.specs.largest.Tests.{is_before, lands_no_more}
use Rattle.safe_model.specs.largest.Largest.{IsLargest}
use Rattle.safe_model.specs.said.Said.{safe, is_settled, is_beside, is_open, first_beside, said_beside, put, in_order, left_by}
use Rattle.safe_model.proofs.largest.Laws.{no_more_is, is_no_more, no_more_through}
use Rattle.board_writes.specs.Writes.{op_in}
use Rattle.safe_said.specs.Landing.{is_chained}
use Rattle.safe_said.specs.Members.{WordMembers, AreMembers, said_with}
use Rattle.safe_said.proofs.MemberLemmas.{each_filter, read_is}

none_any : {X : Type 0} (test : X → Bool) (xs : List X) → AllByRecursion (λ (x : X). test x ≡ false) xs → list_any test xs ≡ false
none_any test [] each = refl
none_any test (x ∷ xs) each = ap (λ b. b || list_any test xs) each.0 ∙ none_any test xs each.1

module _ (board : Board) (table : Table) where
  -- the first lands no more once the second does
  abbrev pub NoMore : OpId → OpId → Type 0
  NoMore a b = lands_no_more board table a b ≡ true

  -- each once all behind it do
  abbrev pub Chain : List OpId → Type 0
  Chain [] = Unit {0}
  Chain (x ∷ xs) = AllByRecursion (NoMore x) xs × Chain xs

  -- the same, or settled
  abbrev pub NotOpen : OpId → OpId → Type 0
  NotOpen a b = (same_op a b || is_settled board table a b) ≡ true

  -- What is put among others.

  put_back : (P : OpId → Type 0) (a : OpId) (xs : List OpId) → AllByRecursion P (put board table a xs) → P a × AllByRecursion P xs
  put_back P a [] each = (each.0, tt)
  put_back P a (b ∷ rest) each =
      let T : Bool → Type 0 = λ t. AllByRecursion P (cond t (a ∷ b ∷ rest) (b ∷ put board table a rest)) → P a × AllByRecursion P (b ∷ rest) in
      (elim (lands_no_more board table a b) as T [
        | true ↦ λ all. (all.0, all.1)
        | false ↦ λ all. let later = put_back P a rest all.1 in (later.0, (all.0, later.1))
      ]) each

  order_back : (P : OpId → Type 0) (xs : List OpId) → AllByRecursion P (in_order board table xs) → AllByRecursion P xs
  order_back P [] each = tt
  order_back P (x ∷ xs) each = let two = put_back P x (in_order board table xs) each in (two.0, order_back P xs two.1)

  none_each : (test : OpId → Bool) (xs : List OpId) → find test xs ≡ None → AllByRecursion (λ (x : OpId). test x ≡ false) xs
  none_each test [] none = tt
  none_each test (x ∷ xs) none =
      let P : Bool → Type 0 = λ b. test x ≡ b → cond b (Some x) (find test xs) ≡ None → (test x ≡ false) × AllByRecursion (λ (y : OpId). test y ≡ false) xs in
      (elim (test x) as P [
        | true ↦ λ _ found. absurd (none-some x (sym found))
        | false ↦ λ is later. (is, none_each test xs later)
      ]) refl none

  -- one that is not among them in their order is not among them
  pub order_none : (test : OpId → Bool) (xs : List OpId) → None ≡ find test (in_order board table xs) → None ≡ find test xs
  order_none test xs none =
      let each : AllByRecursion (λ (x : OpId). test x ≡ false) xs = order_back (λ (x : OpId). test x ≡ false) xs (none_each test (in_order board table xs) (sym none)) in
      sym (any_none test xs (none_any test xs each))

  chain_back : (a : OpId) (xs : List OpId) → Chain (put board table a xs) → Chain xs
  chain_back a [] chain = tt
  chain_back a (b ∷ rest) chain =
      let T : Bool → Type 0 = λ t. Chain (cond t (a ∷ b ∷ rest) (b ∷ put board table a rest)) → Chain (b ∷ rest) in
      (elim (lands_no_more board table a b) as T [
        | true ↦ λ all. all.1
        | false ↦ λ all. ((put_back (NoMore b) a rest all.0).1, chain_back a rest all.1)
      ]) chain

  -- No two are open.

  chain_settles : (xs : List OpId) → Chain xs → AllByRecursion (λ (a : OpId). AllByRecursion (NotOpen a) xs) xs
  chain_settles [] chain = tt
  chain_settles (x ∷ xs) chain =
      let own : NotOpen x x = or_left (same_op x x) (is_settled board table x x) (same_op_self x) in
      let behind : AllByRecursion (NotOpen x) xs = Each-weaker (NoMore x) (NotOpen x)
      (λ y is. or_right (same_op x y) (is_settled board table x y) (or_left (lands_no_more board table x y) (lands_no_more board table y x) is)) xs chain.0 in
      let Back : OpId → Type 0 = λ a. NotOpen a x in
      let back : AllByRecursion Back xs = Each-weaker (NoMore x) Back
      (λ y is. or_right (same_op y x) (is_settled board table y x) (or_right (lands_no_more board table y x) (lands_no_more board table x y) is)) xs chain.0 in
      let Rest : OpId → Type 0 = λ a. AllByRecursion (NotOpen a) xs in
      ((own, behind), Each-weaker (λ (a : OpId). Back a × Rest a) (λ (a : OpId). AllByRecursion (NotOpen a) (x ∷ xs)) (λ a two. (two.0, two.1)) xs (Each-both Back Rest xs back (chain_settles xs chain.1)))

  shut : (a b : OpId) → NotOpen a b → (not (same_op a b) && not (is_settled board table a b)) ≡ false
  shut a b is =
      let P : Bool → Type 0 = λ s. (s || is_settled board table a b) ≡ true → (not s && not (is_settled board table a b)) ≡ false in
      (elim (same_op a b) as P [ true ↦ λ _. refl | false ↦ λ settled. ap (λ s. not s) settled ]) is

  pub chain_none_open : (test : OpId → Bool) (xs : List OpId) → Chain (in_order board table xs) → find (is_open board table (filter test xs)) (filter test xs) ≡ None
  chain_none_open test xs chain =
      let list : List OpId = in_order board table xs in
      let some : List OpId = filter test xs in
      let each : AllByRecursion (λ (a : OpId). AllByRecursion (NotOpen a) list) xs = order_back (λ (a : OpId). AllByRecursion (NotOpen a) list) xs (chain_settles list chain) in
      let kept : AllByRecursion (λ (a : OpId). AllByRecursion (NotOpen a) list) some = each_filter (λ (a : OpId). AllByRecursion (NotOpen a) list) test xs each in
      let none : AllByRecursion (λ (a : OpId). is_open board table some a ≡ false) some = Each-weaker (λ (a : OpId). AllByRecursion (NotOpen a) list) (λ (a : OpId). is_open board table some a ≡ false)
      (λ a all.
      none_any (λ b. not (same_op a b) && not (is_settled board table a b)) some
      (Each-weaker (NotOpen a) (λ (b : OpId). (not (same_op a b) && not (is_settled board table a b)) ≡ false) (shut a) some (each_filter (NotOpen a) test xs (order_back (NotOpen a) xs all)))) some kept in
      any_none (is_open board table some) some (none_any (is_open board table some) some none)

  -- By the largest table.

  pub through : IsLargest board table → (a b c : OpId) → NoMore a b → NoMore b c → NoMore a c
  through is_largest a b c first second =
      is_no_more board table a c (no_more_through board table is_largest a b c (no_more_is board table a b first) (no_more_is board table b c second))

  pub chain_of : IsLargest board table → (xs : List OpId) → is_chained board table xs ≡ true → Chain xs
  chain_of is_largest [] is = tt
  chain_of is_largest (a ∷ []) is = (tt, tt)
  chain_of is_largest (a ∷ b ∷ rest) is =
      let two = and_parts (lands_no_more board table a b) (is_chained board table (b ∷ rest)) is in
      let later : Chain (b ∷ rest) = chain_of is_largest (b ∷ rest) two.1 in
      ((two.0, Each-weaker (NoMore b) (NoMore a) (λ y more. through is_largest a b y two.0 more) rest later.0), later)

  put_first : (a : OpId) (xs : List OpId) → AllByRecursion (NoMore a) xs → put board table a xs ≡ a ∷ xs
  put_first a [] each = refl
  put_first a (b ∷ rest) each = ap (λ t. cond t (a ∷ b ∷ rest) (b ∷ put board table a rest)) each.0

  put_filter : IsLargest board table → (test : OpId → Bool) (a : OpId) (xs : List OpId) → Chain xs → filter test (put board table a xs) ≡ cond (test a) (put board table a (filter test xs)) (filter test xs)
  put_filter is_largest test a [] chain = refl
  put_filter is_largest test a (b ∷ rest) chain =
      let T : Bool → Type 0 = λ t. lands_no_more board table a b ≡ t
      → filter test (cond t (a ∷ b ∷ rest) (b ∷ put board table a rest)) ≡ cond (test a) (put board table a (filter test (b ∷ rest))) (filter test (b ∷ rest)) in
      (elim (lands_no_more board table a b) as T [
        | true ↦ λ is.
            let all : AllByRecursion (NoMore a) (b ∷ rest) = (is, Each-weaker (NoMore b) (NoMore a) (λ y more. through is_largest a b y is more) rest chain.0) in
            let ahead : put board table a (filter test (b ∷ rest)) ≡ a ∷ filter test (b ∷ rest) = put_first a (filter test (b ∷ rest)) (each_filter (NoMore a) test (b ∷ rest) all) in
            ap (λ os. cond (test a) os (filter test (b ∷ rest))) (sym ahead)
        | false ↦ λ none.
            let B : Bool → Type 0 = λ t. cond t (b ∷ cond (test a) (put board table a (filter test rest)) (filter test rest)) (cond (test a) (put board table a (filter test rest)) (filter test rest))
            ≡ cond (test a) (put board table a (cond t (b ∷ filter test rest) (filter test rest))) (cond t (b ∷ filter test rest) (filter test rest)) in
            let behind : put board table a (b ∷ filter test rest) ≡ b ∷ put board table a (filter test rest) = ap (λ t. cond t (a ∷ b ∷ filter test rest) (b ∷ put board table a (filter test rest))) none in
            let A : Bool → Type 0 = λ t. b ∷ cond t (put board table a (filter test rest)) (filter test rest) ≡ cond t (put board table a (b ∷ filter test rest)) (b ∷ filter test rest) in
            let kept : A (test a) = elim (test a) as A [ true ↦ sym behind | false ↦ refl ] in
            ap (λ os. cond (test b) (b ∷ os) os) (put_filter is_largest test a rest chain.1) ∙ (elim (test b) as B [ true ↦ kept | false ↦ refl ])
      ]) refl

  pub order_filter : IsLargest board table → (test : OpId → Bool) (xs : List OpId) → Chain (in_order board table xs) → filter test (in_order board table xs) ≡ in_order board table (filter test xs)
  order_filter is_largest test [] chain = refl
  order_filter is_largest test (x ∷ xs) chain =
      let rest : List OpId = in_order board table xs in
      let less : Chain rest = chain_back x rest chain in
      let P : Bool → Type 0 = λ t. cond t (put board table x (in_order board table (filter test xs))) (in_order board table (filter test xs)) ≡ in_order board table (cond t (x ∷ filter test xs) (filter test xs)) in
      put_filter is_largest test x rest less
      ∙ ap (λ os. cond (test x) (put board table x os) os) (order_filter is_largest test xs less)
      ∙ (elim (test x) as P [ true ↦ refl | false ↦ refl ])

-- None is open of those that land in one order.

kept_all : (xs : List OpId) → filter (λ x. true) xs ≡ xs
kept_all [] = refl
kept_all (x ∷ xs) = ap (λ (os : List OpId). x ∷ os) (kept_all xs)

pub sorted_none_open : (board : Board) (table : Table) → IsLargest board table → (xs ops : List OpId) → ops ≡ in_order board table xs → is_chained board table ops ≡ true → None ≡ find (is_open board table xs) xs
sorted_none_open board table is_largest xs ops is chained =
    let chain : Chain board table (in_order board table xs) = subst (Chain board table) is (chain_of board table is_largest ops chained) in
    let none = chain_none_open board table (λ x. true) xs chain in
    sym none ∙ ap (λ os. find (is_open board table os) os) (kept_all xs)

-- What is said of a read where the writes of its word land in one order.

pub chain_read : (board : Board) (table : Table) → IsLargest board table → (word : Dword) (r : OpId) (kept : WordMembers) → AreMembers board table word kept → kept.chained ≡ true → None ≡ find (is_beside board table r) (map op_in kept.writes)
    → safe word (left_by board word (filter (λ w. is_before board table w r) (map op_in kept.list))) ≡ said_beside board table word r (first_beside board table word r)
chain_read board table is_largest word r kept are chained none =
    let earlier : List OpId → List OpId = λ os. filter (λ w. is_before board table w r) os in
    let ops : List OpId = map op_in kept.writes in
    let is : is_chained board table (map op_in kept.list) ≡ true = sym are.chained ∙ chained in
    let chain : Chain board table (in_order board table ops) = subst (Chain board table) are.list.ops (chain_of board table is_largest (map op_in kept.list) is) in
    let same : earlier (map op_in kept.list) ≡ in_order board table (earlier ops) = ap earlier are.list.ops ∙ order_filter board table is_largest (λ w. is_before board table w r) ops chain in
    ap (λ os. safe word (left_by board word os)) same
    ∙ ap (said_with board table word (earlier ops)) (sym (chain_none_open board table (λ w. is_before board table w r) ops chain))
    ∙ read_is board table word r kept.writes None are.writes none
