-- The operations of a board are listed once each, and a write brings a word one data phase.
use Rattle.std.proofs.Common.{◌≡◌, ◌≢◌, ℕ, ◌+◌, ◌<◌, ◌≤◌, Bool, true, false, ◌&&◌, eqb, eqb-true, cond, List, [], ◌∷◌, ◌++◌, Option, Some, None, refl, sym, ap, subst, arith, slice_get, ◌⊎◌, inl, inr, ⊎_elim}
use Rattle.std.specs.List.{filter, AllByRecursion}
use Rattle.std.proofs.lemmas.Bool.{and_parts}
use Rattle.pci_command.specs.declared.command.Space.{Space}
use Rattle.pci_command.specs.declared.phases.Phase.{Phase}
use Rattle.pci_command.specs.declared.request.Request.{Request}
use Rattle.pci_command.specs.declared.op_id.OpId.{OpId}
use Rattle.pci_command.specs.Command.{space_of}
use Rattle.pci_command.specs.Same.{same_op, same_space}
use Rattle.board_model.specs.declared.agents.Master.{Master as MasterAgent}
use Rattle.board_model.specs.declared.agents.Target.{Target as TargetAgent}
use Rattle.board_model.specs.declared.bridge.Place.{Place}
use Rattle.board_model.specs.declared.bridge.Place.TheVariants.{Target, Header, Lane, Nobody}
use Rattle.board_model.specs.declared.op.Op.{Op}
use Rattle.board_model.specs.declared.board.Board.{Board}
use Rattle.board_model.specs.Requests.{op_of, phases_of, request_on}
use Rattle.board_model.specs.Ways.{Dword, address_in, aborts_at, dwords_from, dwords_of, words_at, words_by, route_of}
use Rattle.history_model.specs.Knowledge.{is_write, words_on, words_named}
use Rattle.list_facts.proofs.EachLemmas.{Each-append, Each-weaker}
use Rattle.history_model.proofs.facts.RequestLemmas.{same_op_true}
use Rattle.safe_model.specs.Ops.{ops_from, ops_by}
use Rattle.safe_model.specs.Raisers.{same_dword, phases_for, phases_in, phases_to}
use Rattle.safe_model.proofs.largest.TestLemmas.{either_way}

-- Lists with each operation once.

abbrev pub Distinct : List OpId → Type 0
Distinct [] = Unit {0}
Distinct (x ∷ xs) = AllByRecursion (λ (y : OpId). same_op y x ≡ false) xs × Distinct xs

-- what is another by a number is another
apart_by : (number : OpId → ℕ) (x y : OpId) → number x < number y → same_op y x ≡ false
apart_by number x y below =
    ⊎_elim {C = same_op y x ≡ false}
    (λ (same : same_op y x ≡ true). let numbers : number y ≡ number x = ap number (same_op_true y x same) in absurd (omega (arith, below, numbers)))
    (λ (other : same_op y x ≡ false). other)
    (either_way (same_op y x))

distinct_append : (xs ys : List OpId) → AllByRecursion (λ (x : OpId). AllByRecursion (λ (y : OpId). same_op y x ≡ false) ys) xs → Distinct xs → Distinct ys → Distinct (xs ++ ys)
distinct_append [] ys apart of_xs of_ys = of_ys
distinct_append (x ∷ xs) ys apart of_xs of_ys =
    (Each-append (λ (y : OpId). same_op y x ≡ false) xs ys of_xs.0 apart.0, distinct_append xs ys apart.1 of_xs.1 of_ys)

-- of what is kept each passes the test
pub filter_each : (P : OpId → Type 0) (kept : OpId → Bool) (xs : List OpId) → AllByRecursion P xs → AllByRecursion (λ (x : OpId). (kept x ≡ true) × P x) (filter kept xs)
filter_each P kept [] each = tt
filter_each P kept (x ∷ xs) each =
    let Q : OpId → Type 0 = λ y. (kept y ≡ true) × P y in
    let K : Bool → Type 0 = λ b. kept x ≡ b → AllByRecursion Q (cond b (x ∷ filter kept xs) (filter kept xs)) in
    (elim (kept x) as K [ true ↦ λ keeps. ((keeps, each.0), filter_each P kept xs each.1) | false ↦ λ _. filter_each P kept xs each.1 ]) refl

pub filter_distinct : (kept : OpId → Bool) (xs : List OpId) → Distinct xs → Distinct (filter kept xs)
filter_distinct kept [] distinct = tt
filter_distinct kept (x ∷ xs) distinct =
    let Other : OpId → Type 0 = λ y. same_op y x ≡ false in
    let later : Distinct (filter kept xs) = filter_distinct kept xs distinct.1 in
    let others : AllByRecursion Other (filter kept xs) = Each-weaker (λ (y : OpId). (kept y ≡ true) × Other y) Other (λ y both. both.1) (filter kept xs) (filter_each Other kept xs distinct.0) in
    let K : Bool → Type 0 = λ b. Distinct (cond b (x ∷ filter kept xs) (filter kept xs)) in
    elim (kept x) as K [ true ↦ (others, later) | false ↦ later ]

-- The operations of a board.

from_behind : (master index : ℕ) (ops : List Op) → AllByRecursion (λ (y : OpId). (y.master ≡ master) × (index ≤ y.index)) (ops_from master index ops)
from_behind master index [] = tt
from_behind master index (op ∷ ops) =
    let P : OpId → Type 0 = λ y. (y.master ≡ master) × (index + 1 ≤ y.index) in
    let Q : OpId → Type 0 = λ y. (y.master ≡ master) × (index ≤ y.index) in
    ((refl, omega arith), Each-weaker P Q (λ y both. let more = both.1 in (both.0, omega (arith, more))) (ops_from master (index + 1) ops) (from_behind master (index + 1) ops))

from_distinct : (master index : ℕ) (ops : List Op) → Distinct (ops_from master index ops)
from_distinct master index [] = tt
from_distinct master index (op ∷ ops) =
    let o : OpId = record { master = master; index = index; attempt = 0 } in
    let P : OpId → Type 0 = λ y. (y.master ≡ master) × (index + 1 ≤ y.index) in
    (Each-weaker P (λ (y : OpId). same_op y o ≡ false) (λ y both. let more = both.1 in apart_by (λ x. x.index) o y (omega (arith, more))) (ops_from master (index + 1) ops) (from_behind master (index + 1) ops), from_distinct master (index + 1) ops)

by_behind : (first : ℕ) (masters : List MasterAgent) → AllByRecursion (λ (y : OpId). first ≤ y.master) (ops_by first masters)
by_behind first [] = tt
by_behind first (m ∷ masters) =
    let Here : OpId → Type 0 = λ y. first ≤ y.master in
    let P : OpId → Type 0 = λ y. (y.master ≡ first) × (0 ≤ y.index) in
    let Q : OpId → Type 0 = λ y. first + 1 ≤ y.master in
    Each-append Here (ops_from first 0 m.ops) (ops_by (first + 1) masters)
    (Each-weaker P Here (λ y both. let same = both.0 in omega (arith, same)) (ops_from first 0 m.ops) (from_behind first 0 m.ops))
    (Each-weaker Q Here (λ y more. omega (arith, more)) (ops_by (first + 1) masters) (by_behind (first + 1) masters))

pub ops_distinct : (first : ℕ) (masters : List MasterAgent) → Distinct (ops_by first masters)
ops_distinct first [] = tt
ops_distinct first (m ∷ masters) =
    let later : List OpId = ops_by (first + 1) masters in
    let P : OpId → Type 0 = λ y. (y.master ≡ first) × (0 ≤ y.index) in
    let Q : OpId → Type 0 = λ y. first + 1 ≤ y.master in
    distinct_append (ops_from first 0 m.ops) later
    (Each-weaker P (λ (x : OpId). AllByRecursion (λ (y : OpId). same_op y x ≡ false) later)
    (λ x both. Each-weaker Q (λ (y : OpId). same_op y x ≡ false) (λ y more. let same = both.0 in apart_by (λ o. o.master) x y (omega (arith, same, more))) later (by_behind (first + 1) masters))
    (ops_from first 0 m.ops) (from_behind first 0 m.ops))
    (from_distinct first 0 m.ops) (ops_distinct (first + 1) masters)

-- The words of an operation.

-- no words, or those from an address on, one for each data phase
abbrev pub InRow : List Dword → List Phase → Type 0
InRow words phases = (words ≡ []) ⊎ ((target : ℕ) × (space : Space) × (address : ℕ) × (words ≡ dwords_from target space address phases))

row_at : (place : ℕ) (request : Request) (found : Option TargetAgent) → InRow (words_at place request found) request.phases
row_at place request None = inl refl
row_at place request (Some target) =
    let P : Bool → Type 0 = λ b. InRow (cond b [] (dwords_of place request)) request.phases in
    elim (aborts_at target request) as P [ true ↦ inl refl | false ↦ inr (place, space_of request.command, address_in (space_of request.command) request.address, refl) ]

row_by : (board : Board) (request : Request) (place : Place) → InRow (words_by board request place) request.phases
row_by board request (Target place) = row_at place request (slice_get board.targets place)
row_by board request (Header bus) = inl refl
row_by board request (Lane lane) = inl refl
row_by board request Nobody = inl refl

row_on : (board : Board) (op : Op) (found : Option MasterAgent) → InRow (words_on board (Some op) found) (phases_of op)
row_on board op None = inl refl
row_on board op (Some master) = row_by board (request_on op (route_of board op master.bus).bus) (route_of board op master.bus).owner

pub in_row : (board : Board) (o : OpId) → InRow (words_named board o) (phases_in (op_of board o))
in_row board o =
    let P : Option Op → Type 0 = λ found. InRow (words_on board found (slice_get board.masters o.master)) (phases_in found) in
    elim (op_of board o) as P [ None ↦ inl refl | Some op ↦ row_on board op (slice_get board.masters o.master) ]

-- none or one
abbrev pub AtMostOne : List Phase → Type 0
AtMostOne phases = (phases ≡ []) ⊎ ((phase : Phase) × (phases ≡ phase ∷ []))

row_none : (word : Dword) (target : ℕ) (space : Space) (address : ℕ) (phases : List Phase) → word.address < address → phases_for word (dwords_from target space address phases) phases ≡ []
row_none word target space address [] below = refl
row_none word target space address (phase ∷ phases) below =
    let later = row_none word target space (address + 4) phases (omega (arith, below)) in
    let dword : Dword = record { target = target; space = space; address = address } in
    let rest : List Phase = phases_for word (dwords_from target space (address + 4) phases) phases in
    let P : Bool → Type 0 = λ b. same_dword dword word ≡ b → (cond b (phase ∷ []) [] ++ rest) ≡ [] in
    (elim (same_dword dword word) as P [
      | true ↦ λ same.
          let two = and_parts (eqb target word.target && same_space space word.space) (eqb address word.address) same in
          let addresses : address ≡ word.address = eqb-true address word.address two.1 in
          absurd (omega (arith, below, addresses))
      | false ↦ λ _. later
    ]) refl

row_one : (word : Dword) (target : ℕ) (space : Space) (address : ℕ) (phases : List Phase) → AtMostOne (phases_for word (dwords_from target space address phases) phases)
row_one word target space address [] = inl refl
row_one word target space address (phase ∷ phases) =
    let dword : Dword = record { target = target; space = space; address = address } in
    let rest : List Phase = phases_for word (dwords_from target space (address + 4) phases) phases in
    let P : Bool → Type 0 = λ b. same_dword dword word ≡ b → AtMostOne (cond b (phase ∷ []) [] ++ rest) in
    (elim (same_dword dword word) as P [
      | true ↦ λ same.
          let two = and_parts (eqb target word.target && same_space space word.space) (eqb address word.address) same in
          let addresses : address ≡ word.address = eqb-true address word.address two.1 in
          let none : rest ≡ [] = row_none word target space (address + 4) phases (omega (arith, addresses)) in
          inr (phase, ap (λ ps. phase ∷ ps) none)
      | false ↦ λ _. row_one word target space (address + 4) phases
    ]) refl

row_least : (word : Dword) (words : List Dword) (phases : List Phase) → InRow words phases → AtMostOne (phases_for word words phases)
row_least word words phases row =
    ⊎_elim {C = AtMostOne (phases_for word words phases)}
    (λ (none : words ≡ []). inl (ap (λ ws. phases_for word ws phases) none))
    (λ (some : (target : ℕ) × (space : Space) × (address : ℕ) × (words ≡ dwords_from target space address phases)). subst (λ ws. AtMostOne (phases_for word ws phases)) (sym some.3) (row_one word some.0 some.1 some.2 phases))
    row

-- a write brings a word one data phase, where it brings any
pub brings_one : (board : Board) (word : Dword) (w : OpId) → phases_to board word w ≢ [] → (phase : Phase) × (phases_to board word w ≡ phase ∷ [])
brings_one board word w some =
    let phases : List Phase = phases_for word (words_named board w) (phases_in (op_of board w)) in
    let P : Bool → Type 0 = λ b. AtMostOne (cond b phases []) in
    let most : AtMostOne (phases_to board word w) = elim (is_write board w) as P [ true ↦ row_least word (words_named board w) (phases_in (op_of board w)) (in_row board w) | false ↦ inl refl ] in
    ⊎_elim {C = (phase : Phase) × (phases_to board word w ≡ phase ∷ [])}
    (λ (none : phases_to board word w ≡ []). absurd (some none))
    (λ (one : (phase : Phase) × (phases_to board word w ≡ phase ∷ [])). one)
    most
