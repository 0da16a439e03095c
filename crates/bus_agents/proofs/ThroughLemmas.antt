-- How many data phases of each operation went through.
use Rattle.std.proofs.Common.{◌≡◌, ◌≢◌, ℕ, zero, suc, Bool, true, false, ◌+◌, ◌<◌, ◌==◌, ◌&&◌, ◌++◌, length, take, drop, List, [], ◌∷◌, Option, None, Some, refl, sym, ap, subst, ◌∙◌, arith, if◌then◌else◌}
use Rattle.std.specs.Prelude.{slice_get}
use Rattle.std.specs.Option.{option_map}
use Rattle.std.proofs.Math.ListN.{set}
use Rattle.std.proofs.lemmas.Bool.Decides.{nat_tests}
use Rattle.std.proofs.lemmas.List.{append-nil, take_all, drop_all}
use Rattle.std.proofs.lemmas.Option.{slice_get_within, slice_get-map}
use Rattle.pci_command.specs.Same.{same_op}
use Rattle.pci_command.specs.declared.op_id.OpId.{OpId}
use Rattle.board_model.specs.declared.agents.Master.{Master as MasterAgent}
use Rattle.board_model.specs.declared.bridge.Place.{Place}
use Rattle.board_model.specs.declared.op.Op.{Op}
use Rattle.board_model.specs.declared.board.Board.{Board}
use Rattle.board_model.specs.Requests.{op_of, tries_of}
use Rattle.board_model.proofs.Laws.{op_there}
use Rattle.history_model.specs.declared.event.By.{By}
use Rattle.history_model.specs.declared.event.Step.TheVariants.{Part}
use Rattle.history_model.specs.declared.event.Event.{Event}
use Rattle.history_model.specs.declared.event.Event.TheVariants.{Act}
use Rattle.history_model.specs.Words.{through, parted_by}
use Rattle.list_facts.specs.Lists.{changed_at, changed_with}
use Rattle.machine_steps.specs.Counts.{or_zero, none_of_any}
use Rattle.bus_agents.specs.Through.{list_in, count_in, added, nothing_yet, ThroughStands, AreBytes}

-- a change at a place, and elsewhere
set_same : {X : Type 0} (xs : List X) (i : ℕ) (x : X) → i < length xs → slice_get (set xs i x) i ≡ Some x
set_same [] i x within = absurd (omega (arith, within))
set_same (y ∷ ys) zero x within = refl
set_same (y ∷ ys) (suc i) x within = set_same ys i x (omega (arith, within))

set_other : {X : Type 0} (xs : List X) (i j : ℕ) (x : X) → j ≢ i → slice_get (set xs i x) j ≡ slice_get xs j
set_other [] i j x apart = refl
set_other (y ∷ ys) zero zero x apart = absurd (apart refl)
set_other (y ∷ ys) zero (suc j) x apart = refl
set_other (y ∷ ys) (suc i) zero x apart = refl
set_other (y ∷ ys) (suc i) (suc j) x apart = set_other ys i j x (λ e. apart (ap suc e))

changed_same : {X : Type 0} (f : X → X) (xs : List X) (place : ℕ) (x : X) → slice_get xs place ≡ Some x → slice_get (changed_at f xs (Some place)) place ≡ Some (f x)
changed_same f xs place x at = rw at (set_same xs place (f x) (slice_get_within xs place x at))

changed_other : {X : Type 0} (f : X → X) (xs : List X) (place other : ℕ) → other ≢ place → slice_get (changed_at f xs (Some place)) other ≡ slice_get xs other
changed_other {X = X} f xs place other apart =
    let P : Option X → Type 0 = λ x. slice_get (changed_with f xs place x) other ≡ slice_get xs other in
    elim (slice_get xs place) as P [ None ↦ refl | Some x ↦ set_other xs place other (f x) apart ]

abbrev slot_in : List (List ℕ) → ℕ → ℕ → Option ℕ
slot_in gone master index = slice_get (list_in (slice_get gone master)) index

added_same : (gone : List (List ℕ)) (p : OpId) (n x : ℕ) → slot_in gone p.master p.index ≡ Some x → slot_in (added p n gone) p.master p.index ≡ Some (x + n)
added_same gone p n x there =
    let f : ℕ → ℕ = λ c. c + n in
    let g : List ℕ → List ℕ = λ row. changed_at f row (Some p.index) in
    let P : Option (List ℕ) → Type 0 = λ r. slice_get gone p.master ≡ r → slice_get (list_in r) p.index ≡ Some x → slot_in (added p n gone) p.master p.index ≡ Some (x + n) in
    (elim (slice_get gone p.master) as P [
      | None ↦ λ _ never. cc
      | Some row ↦ λ at found. ap (λ (r : Option (List ℕ)). slice_get (list_in r) p.index) (changed_same g gone p.master row at) ∙ changed_same f row p.index x found
    ]) refl there

added_other : (gone : List (List ℕ)) (p : OpId) (n master index : ℕ) → (p.master == master && p.index == index) ≡ false → slot_in (added p n gone) master index ≡ slot_in gone master index
added_other gone p n master index other =
    let f : ℕ → ℕ = λ c. c + n in
    let g : List ℕ → List ℕ = λ row. changed_at f row (Some p.index) in
    let P : Bool → Type 0 = λ b. (p.master == master) ≡ b → (b && p.index == index) ≡ false → slot_in (added p n gone) master index ≡ slot_in gone master index in
    (elim (p.master == master) as P [
      | true ↦ λ same differ.
          let one : p.master ≡ master = grind (arith, nat_tests) in
          let apart : index ≢ p.index = λ is. (let all : (p.index == index) ≡ true = grind (arith, nat_tests) in absurd (cc)) in
          let Q : Option (List ℕ) → Type 0 = λ r. slice_get gone p.master ≡ r → slot_in (added p n gone) p.master index ≡ slice_get (list_in r) index in
          let here : slot_in (added p n gone) p.master index ≡ slot_in gone p.master index =
          (elim (slice_get gone p.master) as Q [
            | None ↦ λ at.
                let R : Option (List ℕ) → Type 0 = λ r. slice_get (list_in (slice_get (changed_with g gone p.master r) p.master)) index ≡ slice_get [] index in
                subst R (sym at) (ap (λ (r : Option (List ℕ)). slice_get (list_in r) index) at)
            | Some row ↦ λ at. ap (λ (r : Option (List ℕ)). slice_get (list_in r) index) (changed_same g gone p.master row at) ∙ changed_other f row p.index index apart
          ]) refl in
          subst (λ (m : ℕ). slot_in (added p n gone) m index ≡ slot_in gone m index) one here
      | false ↦ λ differ _.
          let apart : master ≢ p.master = λ is. (let all : (p.master == master) ≡ true = grind (arith, nat_tests) in absurd (cc)) in
          ap (λ (r : Option (List ℕ)). slice_get (list_in r) index) (changed_other g gone p.master master apart)
    ]) refl other

both_true : (a b : Bool) → (a && b) ≡ true → (a ≡ true) × (b ≡ true)
both_true true true e = (refl, refl)
both_true true false e = cc
both_true false b e = cc

-- two names of one place in one program, of an operation that is tried once, name one try
tries_alike : (board : Board) (p o : OpId) (q op : Op) → op_of board p ≡ Some q → tries_of q ≡ 1 → op_of board o ≡ Some op → p.master ≡ o.master → p.index ≡ o.index → p.attempt ≡ o.attempt
tries_alike board p o q op is_q once is_op masters indexes =
    let one = op_there board p q is_q in
    let two = op_there board o op is_op in
    let at_master : slice_get board.masters o.master ≡ Some one.master = subst (λ (n : ℕ). slice_get board.masters n ≡ Some one.master) masters one.is_master in
    let same_master : one.master ≡ two.master = let there = two.is_master in cc in
    let at_op : slice_get two.master.ops o.index ≡ Some q =
    subst (λ (m : MasterAgent). slice_get m.ops o.index ≡ Some q) same_master (subst (λ (n : ℕ). slice_get one.master.ops n ≡ Some q) indexes one.is_op) in
    let same : q ≡ op = let there = two.is_op in cc in
    let tried : o.attempt < tries_of q = subst (λ (x : Op). o.attempt < tries_of x) (sym same) two.tried in
    let first : p.attempt < tries_of q = one.tried in
    omega (arith, once, tried, first)

-- one more part
pub part_stands : (board : Board) (p : List Event) (on : ℕ) (by : By) (q : OpId) (n : ℕ) (place : Place) (one : Op) (gone : List (List ℕ)) → ThroughStands board p gone → op_of board q ≡ Some one → tries_of one ≡ 1
    → ThroughStands board (Act on by q (Part n) place ∷ p) (added q n gone)
part_stands board p on by q n place one gone stands is_one once = record { each = each } where
  each : (o : OpId) (op : Op) → op_of board o ≡ Some op → slot_in (added q n gone) o.master o.index ≡ Some ((if same_op q o then n else 0) + through p o)
  each o op is =
      let was : slot_in gone o.master o.index ≡ Some (through p o) = stands.each o op is in
      let P : Bool → Type 0 = λ b. (q.master == o.master && q.index == o.index) ≡ b → slot_in (added q n gone) o.master o.index ≡ Some ((if b && q.attempt == o.attempt then n else 0) + through p o) in
      (elim (q.master == o.master && q.index == o.index) as P [
        | false ↦ λ other. added_other gone q n o.master o.index other ∙ was ∙ ap (λ (m : ℕ). Some m) (omega arith)
        | true ↦ λ same.
            let parts = both_true (q.master == o.master) (q.index == o.index) same in
            let masters : q.master ≡ o.master = grind (arith, nat_tests, parts.0) in
            let indexes : q.index ≡ o.index = grind (arith, nat_tests, parts.1) in
            let attempts : q.attempt ≡ o.attempt = tries_alike board q o one op is_one once is masters indexes in
            let tried : (q.attempt == o.attempt) ≡ true = grind (arith, nat_tests, attempts) in
            let there : slot_in gone q.master q.index ≡ Some (through p o) = rw (masters, indexes) was in
            let there_added : slot_in (added q n gone) q.master q.index ≡ Some (through p o + n) = added_same gone q n (through p o) there in
            let moved : slot_in (added q n gone) o.master o.index ≡ Some (through p o + n) =
            subst (λ (m : ℕ). slot_in (added q n gone) m o.index ≡ Some (through p o + n)) masters (subst (λ (i : ℕ). slot_in (added q n gone) q.master i ≡ Some (through p o + n)) indexes there_added) in
            let sum : through p o + n ≡ n + through p o = omega arith in
            moved ∙ ap (λ (m : ℕ). Some m) (sum ∙ ap (λ (b : Bool). (if b then n else 0) + through p o) (sym tried))
      ]) refl

-- nothing went through before the first event
pub none_stands : (board : Board) (gone : List (List ℕ)) → gone ≡ nothing_yet board → ThroughStands board [] gone
none_stands board gone none = record { each = each } where
  each : (o : OpId) (op : Op) → op_of board o ≡ Some op → slot_in gone o.master o.index ≡ Some 0
  each o op is =
      let there = op_there board o op is in
      let counts : MasterAgent → List ℕ = λ (m : MasterAgent). none_of_any m.ops in
      let count : Op → ℕ = λ (one : Op). 0 in
      let row : slice_get gone o.master ≡ Some (none_of_any there.master.ops) = rw none (slice_get-map counts board.masters o.master ∙ ap (option_map counts) there.is_master) in
      rw row (slice_get-map count there.master.ops o.index ∙ ap (option_map count) there.is_op)

-- an event that parts nothing
pub through_stays : (board : Board) (p : List Event) (gone : List (List ℕ)) (e : Event) → ((o : OpId) → parted_by o e ≡ 0) → ThroughStands board p gone → ThroughStands board (e ∷ p) gone
through_stays board p gone e none stands =
    record {
      each = λ o op is. (let nothing = none o in let same : through p o ≡ parted_by o e + through p o = omega (arith, nothing) in stands.each o op is ∙ ap (λ (n : ℕ). Some n) same);
    }

-- each count fits a byte before the first event
none_in_row : (index : ℕ) (master : Option MasterAgent) → or_zero (slice_get (list_in (option_map (λ (m : MasterAgent). none_of_any m.ops) master)) index) < 256
none_in_row index None = omega arith
none_in_row index (Some m) =
    let P : Option ℕ → Type 0 = λ c. or_zero c < 256 in
    let Q : Option Op → Type 0 = λ op. or_zero (option_map (λ (one : Op). 0) op) < 256 in
    subst P (sym (slice_get-map (λ (one : Op). 0) m.ops index)) (elim (slice_get m.ops index) as Q [ None ↦ omega arith | Some op ↦ omega arith ])

pub none_bytes : (board : Board) (gone : List (List ℕ)) → gone ≡ nothing_yet board → AreBytes gone
none_bytes board gone none = record { each = each } where
  each : (o : OpId) → count_in gone o < 256
  each o =
      let P : Option (List ℕ) → Type 0 = λ row. or_zero (slice_get (list_in row) o.index) < 256 in
      let row = slice_get-map (λ (m : MasterAgent). none_of_any m.ops) board.masters o.master in
      let here : count_in (nothing_yet board) o < 256 = subst P (sym row) (none_in_row o.index (slice_get board.masters o.master)) in
      subst (λ (g : List (List ℕ)). count_in g o < 256) (sym none) here

-- where no count is kept none is added
added_none : (gone : List (List ℕ)) (p : OpId) (n : ℕ) → slot_in gone p.master p.index ≡ None → slot_in (added p n gone) p.master p.index ≡ None
added_none gone p n there =
    let f : ℕ → ℕ = λ c. c + n in
    let g : List ℕ → List ℕ = λ row. changed_at f row (Some p.index) in
    let P : Option (List ℕ) → Type 0 = λ r. slice_get gone p.master ≡ r → slice_get (list_in r) p.index ≡ None → slot_in (added p n gone) p.master p.index ≡ None in
    (elim (slice_get gone p.master) as P [
      | None ↦ λ at _.
          let Q : Option (List ℕ) → Type 0 = λ r. slice_get (list_in (slice_get (changed_with g gone p.master r) p.master)) p.index ≡ None in
          subst Q (sym at) (ap (λ (r : Option (List ℕ)). slice_get (list_in r) p.index) at)
      | Some row ↦ λ at found.
          let R : Option ℕ → Type 0 = λ c. slice_get (changed_with f row p.index c) p.index ≡ None in
          ap (λ (r : Option (List ℕ)). slice_get (list_in r) p.index) (changed_same g gone p.master row at) ∙ subst R (sym found) found
    ]) refl there

-- nor is one above a byte where the sum fits it
added_fits : (gone : List (List ℕ)) (p : OpId) (n : ℕ) → count_in gone p + n < 256 → or_zero (slot_in (added p n gone) p.master p.index) < 256
added_fits gone p n fits =
    let P : Option ℕ → Type 0 = λ c. slot_in gone p.master p.index ≡ c → or_zero c + n < 256 → or_zero (slot_in (added p n gone) p.master p.index) < 256 in
    (elim (slot_in gone p.master p.index) as P [
      | None ↦ λ at _. let same : or_zero (slot_in (added p n gone) p.master p.index) ≡ 0 = ap or_zero (added_none gone p n at) in omega (arith, same)
      | Some x ↦ λ at sum. let same : or_zero (slot_in (added p n gone) p.master p.index) ≡ x + n = ap or_zero (added_same gone p n x at) in omega (arith, same, sum)
    ]) refl fits

-- one more part of which the sum fits a byte
pub bytes_added : (gone new : List (List ℕ)) (p : OpId) (n : ℕ) → AreBytes gone → count_in gone p + n < 256 → new ≡ added p n gone → AreBytes new
bytes_added gone new p n bytes fits is = record { each = each } where
  each : (o : OpId) → count_in new o < 256
  each o =
      let was : or_zero (slot_in gone o.master o.index) < 256 = bytes.each o in
      let P : Bool → Type 0 = λ b. (p.master == o.master && p.index == o.index) ≡ b → or_zero (slot_in (added p n gone) o.master o.index) < 256 in
      let here = (elim (p.master == o.master && p.index == o.index) as P [
        | false ↦ λ other. let same : or_zero (slot_in (added p n gone) o.master o.index) ≡ or_zero (slot_in gone o.master o.index) = ap or_zero (added_other gone p n o.master o.index other) in omega (arith, same, was)
        | true ↦ λ same.
            let parts = both_true (p.master == o.master) (p.index == o.index) same in
            let masters : p.master ≡ o.master = grind (arith, nat_tests, parts.0) in
            let indexes : p.index ≡ o.index = grind (arith, nat_tests, parts.1) in
            let there = added_fits gone p n fits in
            subst (λ (m : ℕ). or_zero (slot_in (added p n gone) m o.index) < 256) masters (subst (λ (i : ℕ). or_zero (slot_in (added p n gone) p.master i) < 256) indexes there)
      ]) refl in
      subst (λ (g : List (List ℕ)). count_in g o < 256) (sym is) here

-- what is written over a whole list takes its place
pub written : {X : Type 0} (len : ℕ) (new old : List X) → length new ≡ length old → length old ≡ len → take len (new ++ drop (length new) old) ≡ new
written len new old same whole =
    let none : drop (length new) old ≡ [] = drop_all (length new) old (omega (arith, same)) in
    let ends : new ++ drop (length new) old ≡ new = ap (λ l. new ++ l) none ∙ append-nil new in
    ap (take len) ends ∙ take_all len new (omega (arith, same, whole))
