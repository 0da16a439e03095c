-- The test tells whether masters are apart.
use Rattle.std.proofs.Common.{◌≡◌, ℕ, zero, suc, ◌+◌, ◌<◌, ◌≤◌, Bool, true, false, not, ◌&&◌, ◌||◌, ◌==◌, nat_lt, cond, eqb, List, [], ◌∷◌, Option, Some, None, refl, sym, ap, subst, ◌∙◌, arith, slice_get, option_map}
use Rattle.std.specs.List.{find, list_any}
use Rattle.std.specs.Option.{option_and_then}
use Rattle.std.proofs.lemmas.Bool.Decides.{nat_tests}
use Rattle.list_facts.proofs.FindLemmas.{find_passes}
use Rattle.list_facts.proofs.AnyLemmas.{any_some, found_any}
use Rattle.pci_command.specs.declared.command.Command.TheVariants.{MemWrite}
use Rattle.pci_command.specs.declared.op_id.OpId.{OpId}
use Rattle.pci_command.specs.Same.{same_command, same_request}
use Rattle.board_model.specs.declared.agents.Master.{Master}
use Rattle.board_model.specs.declared.bridge.Lane.{Lane as BridgeLane}
use Rattle.board_model.specs.declared.op.Op.{Op}
use Rattle.board_model.specs.declared.board.Board.{Board}
use Rattle.board_model.specs.Requests.{tries_of, op_of, command_of, request_on, both_same, same_requests}
use Rattle.board_model.specs.Ways.{way, start_of}
use Rattle.board_model.specs.Valid.{some_two}
use Rattle.history_model.specs.World.{same_lane}
use Rattle.std.proofs.lemmas.Bool.{and_parts}
use Rattle.history_model.proofs.facts.BridgeLemmas.{same_lane_true, same_lane_self}
use Rattle.history_model.proofs.facts.EqualLemmas.{same_requests-symm}
use Rattle.law_untagged.specs.Apart.{TakesLane, Apart}
use Rattle.law_untagged.specs.ApartTest.{delayed_way, meets_on, ops_meet, masters_meet, is_apart}

-- an element that passes
any_at : {X : Type 0} (test : X → Bool) (xs : List X) (place : ℕ) (x : X) → slice_get xs place ≡ Some x → test x ≡ true → list_any test xs ≡ true
any_at test [] place x some is = cc
any_at test (y ∷ xs) zero x some is = let same : y ≡ x = cc in let here : test y ≡ true = subst (λ z. test z ≡ true) (sym same) is in rw here refl
any_at test (y ∷ xs) (suc place) x some is =
    let later = any_at test xs place x some is in
    let P : Bool → Type 0 = λ b. (b || list_any test xs) ≡ true in
    elim (test y) as P [ true ↦ refl | false ↦ later ]

-- two elements that meet, the earlier one first
two_at : {X : Type 0} (test : X → X → Bool) (xs : List X) (i j : ℕ) (a b : X) → slice_get xs i ≡ Some a → slice_get xs j ≡ Some b → i < j → test a b ≡ true → some_two test xs ≡ true
two_at test [] i j a b first second before is = cc
two_at test (x ∷ xs) zero zero a b first second before is = absurd (omega arith)
two_at test (x ∷ xs) zero (suc j) a b first second before is =
    let same : x ≡ a = cc in
    let here : list_any (test x) xs ≡ true = any_at (test x) xs j b second (subst (λ y. test y b ≡ true) (sym same) is) in
    rw here refl
two_at test (x ∷ xs) (suc i) zero a b first second before is = absurd (omega arith)
two_at test (x ∷ xs) (suc i) (suc j) a b first second before is =
    let later = two_at test xs i j a b first second (omega arith) is in
    let P : Bool → Type 0 = λ c. (c || some_two test xs) ≡ true in
    elim (list_any (test x) xs) as P [ true ↦ refl | false ↦ later ]

-- where an operation that is there stands
record Stands (board : Board) (o : OpId) (op : Op) (master : Master) : Type 0 where
  at : slice_get master.ops o.index ≡ Some op

stands_at : (board : Board) (o : OpId) (op : Op) (master : Master) → op_of board o ≡ Some op → slice_get board.masters o.master ≡ Some master → Stands board o op master
stands_at board o op master is is_master =
    let here : Op → Option Op = λ p. cond (nat_lt o.attempt (tries_of p)) (Some p) None in
    let F : Option Master → Type 0 = λ found. option_and_then here (option_and_then (λ m. slice_get m.ops o.index) found) ≡ Some op in
    let there : option_and_then here (slice_get master.ops o.index) ≡ Some op = subst F is_master is in
    let P : Option Op → Type 0 = λ found. slice_get master.ops o.index ≡ found → option_and_then here found ≡ Some op → Stands board o op master in
    (elim (slice_get master.ops o.index) as P [
      | None ↦ λ _ f. cc
      | Some p ↦ λ is_op f.
          let Q : Bool → Type 0 = λ b. cond b (Some p) None ≡ Some op → p ≡ op in
          let same : p ≡ op = (elim (nat_lt o.attempt (tries_of p)) as Q [ true ↦ λ g. cc | false ↦ λ g. cc ]) f in
          record { at = is_op ∙ ap Some same }
    ]) refl there

module _ (board : Board) where
  way_of : (op : Op) (on : ℕ) (lane : BridgeLane) → same_command (command_of op) MemWrite ≡ false → list_any (same_lane lane) (way board op on) ≡ true → list_any (same_lane lane) (delayed_way board on op) ≡ true
  way_of op on lane delayed is = rw delayed is

  lanes_pass : (test : BridgeLane → Bool) (lane : BridgeLane) (lanes : List BridgeLane) → test lane ≡ true → list_any (same_lane lane) lanes ≡ true → list_any test lanes ≡ true
  lanes_pass test lane [] is on_it = cc
  lanes_pass test lane (l ∷ lanes) is on_it =
      let P : Bool → Type 0 = λ b. same_lane lane l ≡ b → (b || list_any (same_lane lane) lanes) ≡ true → (test l || list_any test lanes) ≡ true in
      (elim (same_lane lane l) as P [
        | true ↦ λ same _. let here : test l ≡ true = subst (λ k. test k ≡ true) (same_lane_true lane l same) is in rw here refl
        | false ↦ λ _ later.
            let rest = lanes_pass test lane lanes is later in
            let Q : Bool → Type 0 = λ b. (b || list_any test lanes) ≡ true in
            elim (test l) as Q [ true ↦ refl | false ↦ rest ]
      ]) refl on_it

  -- two operations that share a lane and a request meet
  takers_meet : (lane : BridgeLane) (o p : OpId) (a : TakesLane board lane o) (b : TakesLane board lane p) → same_requests board (start_of board lane) o p ≡ true → ops_meet board a.master.bus a.op b.master.bus b.op ≡ true
  takers_meet lane o p a b same =
      let on : ℕ = start_of board lane in
      let is_a = a.is_op in
      let is_b = b.is_op in
      let requests : same_request (request_on a.op on) (request_on b.op on) ≡ true = same_by a.op b.op is_a is_b same in
      let other = way_of b.op b.master.bus lane b.delayed b.on_way in
      let here : meets_on board a.op b.master.bus b.op lane ≡ true = rw (other, requests) refl in
      lanes_pass (meets_on board a.op b.master.bus b.op) lane (delayed_way board a.master.bus a.op) here (way_of a.op a.master.bus lane a.delayed a.on_way)
    where
      both_by : (x y : Op) (f g : Option Op) → f ≡ Some x → g ≡ Some y → both_same (option_map (λ op. request_on op (start_of board lane)) f) (option_map (λ op. request_on op (start_of board lane)) g) ≡ true → same_request (request_on x (start_of board lane)) (request_on y (start_of board lane)) ≡ true
      both_by x y None g is is2 e = cc
      both_by x y (Some f) None is is2 e = cc
      both_by x y (Some f) (Some g) is is2 e =
          let first : f ≡ x = cc in
          let second : g ≡ y = cc in
          subst (λ q. same_request (request_on x (start_of board lane)) (request_on q (start_of board lane)) ≡ true) second (subst (λ q. same_request (request_on q (start_of board lane)) (request_on g (start_of board lane)) ≡ true) first e)

      same_by : (x y : Op) → op_of board o ≡ Some x → op_of board p ≡ Some y → same_requests board (start_of board lane) o p ≡ true → same_request (request_on x (start_of board lane)) (request_on y (start_of board lane)) ≡ true
      same_by x y is is2 e = both_by x y (op_of board o) (op_of board p) is is2 e

  earlier_meet : (lane : BridgeLane) (o p : OpId) → TakesLane board lane o → TakesLane board lane p → same_requests board (start_of board lane) o p ≡ true → o.master < p.master → some_two (masters_meet board) board.masters ≡ true
  earlier_meet lane o p a b same before =
      let first = stands_at board o a.op a.master a.is_op a.is_master in
      let second = stands_at board p b.op b.master b.is_op b.is_master in
      let ops : ops_meet board a.master.bus a.op b.master.bus b.op ≡ true = takers_meet lane o p a b same in
      let inner : list_any (ops_meet board a.master.bus a.op b.master.bus) b.master.ops ≡ true = any_at (ops_meet board a.master.bus a.op b.master.bus) b.master.ops p.index b.op second.at ops in
      let outer : masters_meet board a.master b.master ≡ true = any_at (λ op. list_any (ops_meet board a.master.bus op b.master.bus) b.master.ops) a.master.ops o.index a.op first.at inner in
      two_at (masters_meet board) board.masters o.master p.master a.master b.master a.is_master b.is_master before outer

  -- where the test passes masters are apart
  pub test_apart : is_apart board ≡ true → Apart board
  test_apart is lane o p a b same =
      let P : Bool → Type 0 = λ c. not c ≡ true → c ≡ false in
      let none : some_two (masters_meet board) board.masters ≡ false = (elim (some_two (masters_meet board) board.masters) as P [ true ↦ λ e. cc | false ↦ λ _. refl ]) is in
      let Q : Bool → Bool → Type 0 = λ x y. nat_lt o.master p.master ≡ x → nat_lt p.master o.master ≡ y → o.master ≡ p.master in
      (elim (nat_lt o.master p.master) as (λ x. Q x (nat_lt p.master o.master)) [
        | true ↦ λ below _. let some = earlier_meet lane o p a b same (grind (arith, nat_tests)) in cc
        | false ↦ elim (nat_lt p.master o.master) as (Q false) [
          | true ↦ λ _ above. let some = earlier_meet lane p o b a (same_requests-symm board (start_of board lane) p o ∙ same) (grind (arith, nat_tests)) in cc
          | false ↦ λ below above. grind (arith, nat_tests)
        ]
      ]) refl refl

-- The other way round.

record At {X : Type 0} (test : X → Bool) (xs : List X) : Type 0 where
  place : ℕ
  element : X
  there : slice_get xs place ≡ Some element
  passes : test element ≡ true

some_at : {X : Type 0} (test : X → Bool) (xs : List X) → list_any test xs ≡ true → At test xs
some_at test [] is = cc
some_at test (x ∷ xs) is =
    let P : Bool → Type 0 = λ b. test x ≡ b → (b || list_any test xs) ≡ true → At test (x ∷ xs) in
    (elim (test x) as P [
      | true ↦ λ passes _. record { place = 0; element = x; there = refl; passes = passes }
      | false ↦ λ _ later. let rest = some_at test xs later in record { place = suc rest.place; element = rest.element; there = rest.there; passes = rest.passes }
    ]) refl is

record Two {X : Type 0} (test : X → X → Bool) (xs : List X) : Type 0 where
  first : ℕ
  second : ℕ
  a : X
  b : X
  first_there : slice_get xs first ≡ Some a
  second_there : slice_get xs second ≡ Some b
  before : first < second
  passes : test a b ≡ true

some_two_at : {X : Type 0} (test : X → X → Bool) (xs : List X) → some_two test xs ≡ true → Two test xs
some_two_at test [] is = cc
some_two_at test (x ∷ xs) is =
    let P : Bool → Type 0 = λ c. list_any (test x) xs ≡ c → (c || some_two test xs) ≡ true → Two test (x ∷ xs) in
    (elim (list_any (test x) xs) as P [
      | true ↦ λ here _. let at = some_at (test x) xs here in record { first = 0; second = suc at.place; a = x; b = at.element; first_there = refl; second_there = at.there; before = omega arith; passes = at.passes }
      | false ↦ λ _ later. let rest = some_two_at test xs later in record { first = suc rest.first; second = suc rest.second; a = rest.a; b = rest.b; first_there = rest.first_there; second_there = rest.second_there; before = omega (arith, rest.before); passes = rest.passes }
    ]) refl is

op_there : (board : Board) (place index : ℕ) (master : Master) (op : Op) → slice_get board.masters place ≡ Some master → slice_get master.ops index ≡ Some op → 1 ≤ tries_of op
    → op_of board (record { master = place; index = index; attempt = 0 }) ≡ Some op
op_there board place index master op is_master at tries =
    let first_try : nat_lt 0 (tries_of op) ≡ true = grind (arith, nat_tests) in
    rw (is_master, at, first_try) refl

taken_by : (board : Board) (on : ℕ) (op : Op) (lane : BridgeLane) → list_any (same_lane lane) (delayed_way board on op) ≡ true → (same_command (command_of op) MemWrite ≡ false) × (list_any (same_lane lane) (way board op on) ≡ true)
taken_by board on op lane is =
    let P : Bool → Type 0 = λ b. same_command (command_of op) MemWrite ≡ b → list_any (same_lane lane) (cond b [] (way board op on)) ≡ true → (same_command (command_of op) MemWrite ≡ false) × (list_any (same_lane lane) (way board op on) ≡ true) in
    (elim (same_command (command_of op) MemWrite) as P [ true ↦ λ _ f. cc | false ↦ λ delayed f. (delayed, f) ]) refl is

-- the tries of an operation are some
abbrev pub Tried : Board → Type 0
Tried board = (place index : ℕ) (master : Master) (op : Op) → slice_get board.masters place ≡ Some master → slice_get master.ops index ≡ Some op → 1 ≤ tries_of op

pub apart_test : (board : Board) → Tried board → Apart board → is_apart board ≡ true
apart_test board tried apart =
    let P : Bool → Type 0 = λ c. some_two (masters_meet board) board.masters ≡ c → not c ≡ true in
    (elim (some_two (masters_meet board) board.masters) as P [
      | true ↦ λ some.
          let two = some_two_at (masters_meet board) board.masters some in
          let outer = some_at (λ op. list_any (ops_meet board two.a.bus op two.b.bus) two.b.ops) two.a.ops two.passes in
          let inner = some_at (ops_meet board two.a.bus outer.element two.b.bus) two.b.ops outer.passes in
          let op : Op = outer.element in
          let other : Op = inner.element in
          let o : OpId = record { master = two.first; index = outer.place; attempt = 0 } in
          let p : OpId = record { master = two.second; index = inner.place; attempt = 0 } in
          let is_op : op_of board o ≡ Some op = op_there board two.first outer.place two.a op two.first_there outer.there (tried two.first outer.place two.a op two.first_there outer.there) in
          let is_other : op_of board p ≡ Some other = op_there board two.second inner.place two.b other two.second_there inner.there (tried two.second inner.place two.b other two.second_there inner.there) in
          let test : BridgeLane → Bool = meets_on board op two.b.bus other in
          let found = any_some test (delayed_way board two.a.bus op) inner.passes in
          let lane : BridgeLane = found.0 in
          let parts = and_parts (list_any (same_lane lane) (delayed_way board two.b.bus other)) (same_request (request_on op (start_of board lane)) (request_on other (start_of board lane))) (find_passes test (delayed_way board two.a.bus op) lane found.1) in
          let mine = taken_by board two.a.bus op lane (found_any test (same_lane lane) (delayed_way board two.a.bus op) lane found.1 (same_lane_self lane)) in
          let theirs = taken_by board two.b.bus other lane parts.0 in
          let takes : TakesLane board lane o = record { op = op; is_op = is_op; delayed = mine.0; master = two.a; is_master = two.first_there; on_way = mine.1 } in
          let takes_other : TakesLane board lane p = record { op = other; is_op = is_other; delayed = theirs.0; master = two.b; is_master = two.second_there; on_way = theirs.1 } in
          let requests = parts.1 in
          let same : same_requests board (start_of board lane) o p ≡ true = rw (is_op, is_other) requests in
          let one : two.first ≡ two.second = apart lane o p takes takes_other same in
          absurd (omega (arith, one, two.before))
      | false ↦ λ _. refl
    ]) refl
