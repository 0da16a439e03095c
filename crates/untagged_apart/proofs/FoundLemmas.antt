-- Two masters meet exactly where two of their operations do.
use Rattle.std.proofs.Common.{◌≡◌, ℕ, zero, suc, ◌<◌, ◌≤◌, Bool, true, false, not, ◌&&◌, ◌||◌, nat_lt, List, [], ◌∷◌, length, Option, Some, None, refl, sym, ap, subst, ◌∙◌, arith, slice_get}
use Rattle.std.specs.List.{list_any}
use Rattle.std.proofs.lemmas.Bool.{and_parts}
use Rattle.std.proofs.lemmas.Bool.Decides.{nat_tests}
use Rattle.board_model.specs.declared.agents.Master.{Master}
use Rattle.board_model.specs.declared.op.Op.{Op}
use Rattle.board_model.specs.declared.board.Board.{Board}
use Rattle.board_model.specs.Valid.{some_two}
use Rattle.law_untagged.specs.ApartTest.{ops_meet, masters_meet, is_apart}
use Rattle.untagged_apart.specs.declared.kept.Spot.{Spot}
use Rattle.untagged_apart.specs.Kept.{At, meets_in, meets_at, meets_earlier, is_before, Gone}

-- an element that passes
any_at : {X : Type 0} (test : X → Bool) (xs : List X) (place : ℕ) (x : X) → slice_get xs place ≡ Some x → test x ≡ true → list_any test xs ≡ true
any_at test [] place x some is = cc
any_at test (y ∷ xs) zero x some is = let same : y ≡ x = cc in let here : test y ≡ true = subst (λ z. test z ≡ true) (sym same) is in rw here refl
any_at test (y ∷ xs) (suc place) x some is =
    let later = any_at test xs place x some is in
    let P : Bool → Type 0 = λ b. (b || list_any test xs) ≡ true in
    elim (test y) as P [ true ↦ refl | false ↦ later ]

-- two elements that meet, the earlier one first
two_at : {X : Type 0} (test : X → X → Bool) (xs : List X) (i j : ℕ) (a b : X) → slice_get xs i ≡ Some a → slice_get xs j ≡ Some b → i < j → test a b ≡ true → some_two test xs ≡ true
two_at test [] i j a b first second before is = cc
two_at test (x ∷ xs) zero zero a b first second before is = absurd (omega arith)
two_at test (x ∷ xs) zero (suc j) a b first second before is =
    let same : x ≡ a = cc in
    let here : list_any (test x) xs ≡ true = any_at (test x) xs j b second (subst (λ y. test y b ≡ true) (sym same) is) in
    rw here refl
two_at test (x ∷ xs) (suc i) zero a b first second before is = absurd (omega arith)
two_at test (x ∷ xs) (suc i) (suc j) a b first second before is =
    let later = two_at test xs i j a b first second (omega arith) is in
    let P : Bool → Type 0 = λ c. (c || some_two test xs) ≡ true in
    elim (list_any (test x) xs) as P [ true ↦ refl | false ↦ later ]

record AtPlace {X : Type 0} (test : X → Bool) (xs : List X) : Type 0 where
  place : ℕ
  element : X
  there : slice_get xs place ≡ Some element
  passes : test element ≡ true

some_at : {X : Type 0} (test : X → Bool) (xs : List X) → list_any test xs ≡ true → AtPlace test xs
some_at test [] is = cc
some_at test (x ∷ xs) is =
    let P : Bool → Type 0 = λ b. test x ≡ b → (b || list_any test xs) ≡ true → AtPlace test (x ∷ xs) in
    (elim (test x) as P [
      | true ↦ λ passes _. record { place = 0; element = x; there = refl; passes = passes }
      | false ↦ λ _ later. let rest = some_at test xs later in record { place = suc rest.place; element = rest.element; there = rest.there; passes = rest.passes }
    ]) refl is

record Two {X : Type 0} (test : X → X → Bool) (xs : List X) : Type 0 where
  first : ℕ
  second : ℕ
  a : X
  b : X
  first_there : slice_get xs first ≡ Some a
  second_there : slice_get xs second ≡ Some b
  before : first < second
  inside : second < length xs
  passes : test a b ≡ true

below_length : {X : Type 0} (xs : List X) (n : ℕ) (x : X) → slice_get xs n ≡ Some x → n < length xs
below_length [] n x is = cc
below_length (y ∷ xs) zero x is = omega arith
below_length (y ∷ xs) (suc n) x is = let rest = below_length xs n x is in omega (arith, rest)

some_two_at : {X : Type 0} (test : X → X → Bool) (xs : List X) → some_two test xs ≡ true → Two test xs
some_two_at test [] is = cc
some_two_at test (x ∷ xs) is =
    let P : Bool → Type 0 = λ c. list_any (test x) xs ≡ c → (c || some_two test xs) ≡ true → Two test (x ∷ xs) in
    (elim (list_any (test x) xs) as P [
      | true ↦ λ here _.
          let at = some_at (test x) xs here in
          let within = below_length xs at.place at.element at.there in
          record { first = 0; second = suc at.place; a = x; b = at.element; first_there = refl; second_there = at.there; before = omega arith; inside = omega (arith, within); passes = at.passes }
      | false ↦ λ _ later.
          let rest = some_two_at test xs later in
          record { first = suc rest.first; second = suc rest.second; a = rest.a; b = rest.b; first_there = rest.first_there; second_there = rest.second_there; before = omega (arith, rest.before); inside = omega (arith, rest.inside); passes = rest.passes }
    ]) refl is

-- one that is kept and meets the operation
pub found_two : (board : Board) (spot : Spot) (on : ℕ) (op : Op) (spots : List Spot) → At board spot on op → list_any (meets_earlier board spot.master on op) spots ≡ true → is_apart board ≡ false
found_two board spot on op spots at some =
    let found = some_at (meets_earlier board spot.master on op) spots some in
    let t : Spot = found.element in
    let parts = and_parts (nat_lt t.master spot.master) (meets_at board on op t.index (slice_get board.masters t.master)) found.passes in
    let below : t.master < spot.master = (let is = parts.0 in grind (arith, nat_tests)) in
    let two : some_two (masters_meet board) board.masters ≡ true = stood t parts.1 below in
    ap not two
  where
    stood : (t : Spot) → meets_at board on op t.index (slice_get board.masters t.master) ≡ true → t.master < spot.master → some_two (masters_meet board) board.masters ≡ true
    stood t is below =
        let P : Option Master → Type 0 = λ found. slice_get board.masters t.master ≡ found → meets_at board on op t.index found ≡ true → some_two (masters_meet board) board.masters ≡ true in
        (elim (slice_get board.masters t.master) as P [
          | None ↦ λ _ e. cc
          | Some master ↦ λ is_master e.
              let Q : Option Op → Type 0 = λ found. slice_get master.ops t.index ≡ found → meets_in board on op master.bus found ≡ true → some_two (masters_meet board) board.masters ≡ true in
              (elim (slice_get master.ops t.index) as Q [
                | None ↦ λ _ f. cc
                | Some first ↦ λ is_op f.
                    let there : ops_meet board master.bus first at.master.bus op ≡ true = subst (λ n. ops_meet board master.bus first n op ≡ true) (sym at.is_bus) f in
                    let inner : list_any (ops_meet board master.bus first at.master.bus) at.master.ops ≡ true = any_at (ops_meet board master.bus first at.master.bus) at.master.ops spot.index op at.is_op there in
                    let outer : masters_meet board master at.master ≡ true = any_at (λ o. list_any (ops_meet board master.bus o at.master.bus) at.master.ops) master.ops t.index first is_op inner in
                    two_at (masters_meet board) board.masters t.master spot.master master at.master is_master at.is_master below outer
              ]) refl e
        ]) refl is

-- where all were gone through no two meet
pub gone_all : (board : Board) (entries : List (ℕ × List Spot)) (m : ℕ) → length board.masters ≤ m → Gone board entries m 0 → is_apart board ≡ true
gone_all board entries m all gone =
    let P : Bool → Type 0 = λ c. some_two (masters_meet board) board.masters ≡ c → not c ≡ true in
    (elim (some_two (masters_meet board) board.masters) as P [
      | true ↦ λ some.
          let two = some_two_at (masters_meet board) board.masters some in
          let outer = some_at (λ op. list_any (ops_meet board two.a.bus op two.b.bus) two.b.ops) two.a.ops two.passes in
          let inner = some_at (ops_meet board two.a.bus outer.element two.b.bus) two.b.ops outer.passes in
          let s : Spot = record { master = two.first; index = outer.place } in
          let t : Spot = record { master = two.second; index = inner.place } in
          let at : At board s two.a.bus outer.element = record { master = two.a; is_master = two.first_there; is_bus = refl; is_op = outer.there } in
          let other_at : At board t two.b.bus inner.element = record { master = two.b; is_master = two.second_there; is_bus = refl; is_op = inner.there } in
          let within : two.second < m = omega (arith, two.inside, all) in
          let before : is_before m 0 t ≡ true = grind (arith, nat_tests) in
          let none : ops_meet board two.a.bus outer.element two.b.bus inner.element ≡ false = gone.none s t two.a.bus two.b.bus outer.element inner.element at other_at before two.before in
          let met = inner.passes in
          cc
      | false ↦ λ _. refl
    ]) refl
