-- What is noted of writes tells of each flag whether it is rung once, by whole dwords and alone.
use Rattle.std.proofs.Common.{◌≡◌, ℕ, ◌+◌, ◌*◌, ◌^◌, ◌<◌, ◌≤◌, Bool, true, false, not, ◌&&◌, ◌||◌, ◌==◌, cond, eqb, eqb-true, min, filter, List, [], ◌∷◌, ◌++◌, length, drop, get_or, Option, Some, unwrap_or, refl, sym, ap, subst, ◌∙◌, arith}
use Rattle.std.specs.List.{list_all}
use Rattle.std.specs.Map.{lookup}
use Rattle.std.proofs.lemmas.Bool.{and_parts}
use Rattle.std.proofs.lemmas.Bool.Decides.{nat_tests}
use Rattle.std.proofs.lemmas.List.{drop_more, drop_all}
use Rattle.list_facts.specs.Lists.{total}
use Rattle.pci_command.specs.declared.command.Command.TheVariants.{MemWrite}
use Rattle.pci_command.specs.declared.phases.Phase.{Phase}
use Rattle.pci_command.specs.Same.{same_command}
use Rattle.board_model.specs.declared.agents.Master.{Master}
use Rattle.board_model.specs.declared.board.Board.{Board}
use Rattle.board_model.specs.declared.op.Op.{Op}
use Rattle.board_model.specs.Requests.{command_of, address_on, phases_of}
use Rattle.history_model.specs.Clear.{phases_at, written_at, brings_value, rings, is_whole, rings_whole, rings_in, holds, opens_otherwise, is_clear}
use Rattle.dma_agents.specs.declared.written.WrittenValue.{WrittenValue}
use Rattle.dma_agents.specs.declared.written.Written.{Written}
use Rattle.dma_agents.specs.Written.{weighs, phase_weighs, phases_weigh, op_weighs, ops_weigh, masters_weigh, same_value, weight_in, is_noted, weight_at, Noted, IsWritten}
use Rattle.dma_agents.proofs.ClearLemmas.{capped, one_of_capped}

-- Tests and numbers.

and_assoc : (a b c : Bool) → (a && (b && c)) ≡ ((a && b) && c)
and_assoc true b c = refl
and_assoc false b c = refl

and_false : (b : Bool) → (b && false) ≡ false
and_false true = refl
and_false false = refl

or_true : (b : Bool) → (b || true) ≡ true
or_true true = refl
or_true false = refl

zero_more : (n : ℕ) → n ≡ 0 + n
zero_more n = omega arith

none_below : (n : ℕ) → eqb (1 + n) 0 ≡ false
none_below n = grind (arith, nat_tests)

not_one : (n : ℕ) → 2 ≤ n → eqb n 1 ≡ false
not_one n many = grind (arith, nat_tests)

capped_same : (n : ℕ) → min n 2 ≡ min (min n 2 + 0) 2
capped_same n = omega arith

-- A test and how often a flag is rung, beside the weight of it: the same where the test passes, and too much where it fails.

record Agrees (good : Bool) (rung weight : ℕ) : Type 0 where
  passes : good ≡ true → weight ≡ rung
  fails : good ≡ false → 2 ≤ weight

both_agree : (a b : Bool) (r s w x : ℕ) → Agrees a r w → Agrees b s x → Agrees (a && b) (r + s) (w + x)
both_agree true b r s w x first second =
    record {
      passes = λ is. omega (arith, first.passes refl, second.passes is);
      fails = λ is. omega (arith, second.fails is);
    }
both_agree false b r s w x first second =
    record {
      passes = λ is. let clash : false ≡ true = is in cc;
      fails = λ is. omega (arith, first.fails refl);
    }

all_agree : {X : Type 0} (good : X → Bool) (rung weight : X → ℕ) → ((x : X) → Agrees (good x) (rung x) (weight x)) → (xs : List X) → Agrees (list_all good xs) (total rung xs) (total weight xs)
all_agree good rung weight each [] = record { passes = λ is. refl; fails = λ is. let clash : true ≡ false = is in cc }
all_agree good rung weight each (x ∷ xs) =
    both_agree (good x) (list_all good xs) (rung x) (total rung xs) (weight x) (total weight xs) (each x) (all_agree good rung weight each xs)

agree_once : (good : Bool) (rung weight : ℕ) → Agrees good rung weight → eqb weight 1 ≡ (good && eqb rung 1)
agree_once true rung weight agrees = ap (λ n. eqb n 1) (agrees.passes refl)
agree_once false rung weight agrees = not_one weight (agrees.fails refl)

-- Data phases of a write, which is of one or not.

phase_core : (whole brought alone : Bool) → Agrees (whole && (not brought || alone)) (cond brought 1 0) (cond whole (cond brought (cond alone 1 2) 0) 2)
phase_core true true true = record { passes = λ is. refl; fails = λ is. let clash : true ≡ false = is in cc }
phase_core true true false = record { passes = λ is. let clash : false ≡ true = is in cc; fails = λ is. omega arith }
phase_core true false alone = record { passes = λ is. refl; fails = λ is. let clash : true ≡ false = is in cc }
phase_core false brought alone = record { passes = λ is. let clash : false ≡ true = is in cc; fails = λ is. omega arith }

clear_core : (whole brought alone rest : Bool) (n : ℕ) → ((whole && (not brought || alone)) && (rest && (eqb n 0 || alone))) ≡ ((whole && rest) && (eqb (cond brought 1 0 + n) 0 || alone))
clear_core true true true rest n = ap (λ b. rest && b) (or_true (eqb n 0) ∙ sym (or_true (eqb (1 + n) 0)))
clear_core true true false rest n = sym (ap (λ b. rest && (b || false)) (none_below n) ∙ and_false rest)
clear_core true false alone rest n = ap (λ m. rest && (eqb m 0 || alone)) (zero_more n)
clear_core false brought alone rest n = refl

module _ (address value : ℕ) where
  module _ (alone : Bool) where
    abbrev brings : Phase → ℕ
    brings phase = cond (brings_value value phase) 1 0

    abbrev is_good : Phase → Bool
    is_good phase = is_whole phase && (not (brings_value value phase) || alone)

    all_good : (phases : List Phase) → list_all is_good phases ≡ (list_all is_whole phases && (eqb (total brings phases) 0 || alone))
    all_good [] = refl
    all_good (phase ∷ phases) =
        ap (λ b. is_good phase && b) (all_good phases) ∙ clear_core (is_whole phase) (brings_value value phase) alone (list_all is_whole phases) (total brings phases)

    phases_agree : (phases : List Phase) → Agrees (list_all is_whole phases && (eqb (total brings phases) 0 || alone)) (total brings phases) (total (weighs value alone) phases)
    phases_agree phases =
        subst (λ b. Agrees b (total brings phases) (total (weighs value alone) phases)) (all_good phases)
        (all_agree is_good brings (weighs value alone) (λ phase. phase_core (is_whole phase) (brings_value value phase) alone) phases)

  -- Operations and masters.

  op_agrees : (op : Op) → Agrees (rings_whole address value op) (rings address value op) (op_weighs op address value)
  op_agrees op = phases_agree (eqb (length (phases_of op)) 1) (written_at address op)

  ops_agree : (ops : List Op) → Agrees (list_all (rings_whole address value) ops) (total (rings address value) ops) (ops_weigh ops address value)
  ops_agree ops = all_agree (rings_whole address value) (rings address value) (λ (op : Op). op_weighs op address value) op_agrees ops

  masters_agree : (masters : List Master)
      → Agrees (list_all (λ (master : Master). list_all (rings_whole address value) master.ops) masters) (total (λ (master : Master). total (rings address value) master.ops) masters) (masters_weigh masters address value)
  masters_agree masters =
      all_agree (λ (master : Master). list_all (rings_whole address value) master.ops) (λ (master : Master). total (rings address value) master.ops) (λ (master : Master). ops_weigh master.ops address value)
      (λ (master : Master). ops_agree master.ops) masters

  -- a flag is clear by the weight that is noted of it
  pub clear_by_weight : (board : Board) (written : Written) (opens rung : Bool) → address < 2 ^ 32 → IsWritten board.masters written → opens ≡ opens_otherwise address value (filter (holds address) board.targets)
      → rung ≡ (weight_at written address value == 1) → (opens && rung) ≡ is_clear board address value
  clear_by_weight board written opens rung small is opens_is rung_is =
      let ops : Bool = list_all (λ (master : Master). list_all (rings_whole address value) master.ops) board.masters in
      let weight : ℕ = masters_weigh board.masters address value in
      let once : rung ≡ (ops && eqb (rings_in address value board) 1) =
      rung_is ∙ ap (λ n. eqb n 1) (is.each address value small) ∙ one_of_capped weight
      ∙ agree_once ops (rings_in address value board) weight (masters_agree board.masters) in
      ap (λ b. b && rung) opens_is
      ∙ ap (λ b. opens_otherwise address value (filter (holds address) board.targets) && b) once
      ∙ and_assoc (opens_otherwise address value (filter (holds address) board.targets)) ops (eqb (rings_in address value board) 1)

-- What is noted, step by step: behind each, what was noted and what is to come weighs what all did before the first.

pub record Stands (all rest : ℕ → ℕ → ℕ) (first now : Written) : Type 0 where
  pub each : (address value : ℕ) → address < 2 ^ 32 → min (weight_at now address value + rest address value) 2 ≡ min (weight_at first address value + all address value) 2

few_core : (b : Bool) (n : ℕ) → cond b 2 (min n 2) ≡ min (cond b 2 (min n 2) + 0) 2
few_core true n = refl
few_core false n = capped_same n

-- no weight is above 2
few : (written : Written) (address value : ℕ) → weight_at written address value ≡ min (weight_at written address value + 0) 2
few written address value = few_core (is_noted written.parts.keys address) (weight_in written.weights.entries (record { address = address; value = value }))

pub none_yet : (all : ℕ → ℕ → ℕ) (written : Written) → Stands all all written written
none_yet all written = record { each = λ address value small. refl }

one_more : (all rest here next : ℕ → ℕ → ℕ) (first old now : Written) → ((address value : ℕ) → rest address value ≡ here address value + next address value) → Stands all rest first old → Noted here old now → Stands all next first now
one_more all rest here next first old now parts before noted =
    record {
      each = λ address value small.
          ap (λ n. min (n + next address value) 2) (noted.each address value small)
          ∙ capped (weight_at old address value) (here address value) (next address value)
          ∙ sym (ap (λ n. min (weight_at old address value + n) 2) (parts address value))
          ∙ before.each address value small;
    }

none_left : (all rest : ℕ → ℕ → ℕ) (first now : Written) → ((address value : ℕ) → rest address value ≡ 0) → Stands all rest first now → Noted all first now
none_left all rest first now none stands =
    record {
      each = λ address value small.
          few now address value
          ∙ sym (ap (λ n. min (weight_at now address value + n) 2) (none address value))
          ∙ stands.each address value small;
    }

-- of masters
pub master_more : (masters : List Master) (index : ℕ) (master : Master) (first old now : Written) → index < length masters → master ≡ get_or masters index master
    → Stands (masters_weigh masters) (masters_weigh (drop index masters)) first old → Noted (ops_weigh master.ops) old now → Stands (masters_weigh masters) (masters_weigh (drop (index + 1) masters)) first now
master_more masters index master first old now within is before noted =
    let here : drop index masters ≡ master ∷ drop (index + 1) masters = drop_more masters index master within ∙ ap (λ (m : Master). m ∷ drop (index + 1) masters) (sym is) in
    one_more (masters_weigh masters) (masters_weigh (drop index masters)) (ops_weigh master.ops) (masters_weigh (drop (index + 1) masters)) first old now
    (λ address value. ap (λ ms. masters_weigh ms address value) here) before noted

pub masters_done : (masters : List Master) (index : ℕ) (first now : Written) → length masters ≤ index → Stands (masters_weigh masters) (masters_weigh (drop index masters)) first now → Noted (masters_weigh masters) first now
masters_done masters index first now past stands =
    none_left (masters_weigh masters) (masters_weigh (drop index masters)) first now (λ address value. ap (λ ms. masters_weigh ms address value) (drop_all index masters past)) stands

-- of operations
pub op_more : (ops : List Op) (index : ℕ) (op : Op) (first old now : Written) → index < length ops → op ≡ get_or ops index op
    → Stands (ops_weigh ops) (ops_weigh (drop index ops)) first old → Noted (op_weighs op) old now → Stands (ops_weigh ops) (ops_weigh (drop (index + 1) ops)) first now
op_more ops index op first old now within is before noted =
    let here : drop index ops ≡ op ∷ drop (index + 1) ops = drop_more ops index op within ∙ ap (λ (o : Op). o ∷ drop (index + 1) ops) (sym is) in
    one_more (ops_weigh ops) (ops_weigh (drop index ops)) (op_weighs op) (ops_weigh (drop (index + 1) ops)) first old now
    (λ address value. ap (λ os. ops_weigh os address value) here) before noted

pub ops_done : (ops : List Op) (index : ℕ) (first now : Written) → length ops ≤ index → Stands (ops_weigh ops) (ops_weigh (drop index ops)) first now → Noted (ops_weigh ops) first now
ops_done ops index first now past stands =
    none_left (ops_weigh ops) (ops_weigh (drop index ops)) first now (λ address value. ap (λ os. ops_weigh os address value) (drop_all index ops past)) stands

-- of an operation
op_written : (op : Op) (command : Bool) (address value : ℕ) → same_command (command_of op) MemWrite ≡ command
    → op_weighs op address value ≡ total (weighs value (eqb (length (phases_of op)) 1)) (cond command (phases_at address (address_on op 0) (phases_of op)) [])
op_written op command address value is =
    ap (λ b. total (weighs value (eqb (length (phases_of op)) 1)) (cond b (phases_at address (address_on op 0) (phases_of op)) [])) is

pub no_write_noted : (op : Op) (written : Written) → same_command (command_of op) MemWrite ≡ false → Noted (op_weighs op) written written
no_write_noted op written is =
    record {
      each = λ address value small.
          few written address value ∙ sym (ap (λ n. min (weight_at written address value + n) 2) (op_written op false address value is));
    }

-- of data phases from an address on
first_of_phases : (at : ℕ) (alone : Bool) (phase : Phase) (phases : List Phase) (address value : ℕ)
    → phases_weigh at alone (phase ∷ phases) address value ≡ phase_weighs at alone phase address value + phases_weigh (at + 4) alone phases address value
first_of_phases at alone phase phases address value =
    let rest : List Phase = phases_at address (at + 4) phases in
    let weight : Phase → ℕ = weighs value alone in
    let P : Bool → Type 0 = λ b. total weight (cond b (phase ∷ []) [] ++ rest) ≡ cond b (weight phase) 0 + total weight rest in
    elim (eqb at address) as P [ true ↦ refl | false ↦ zero_more (total weight rest) ]

pub phase_more : (at : ℕ) (alone : Bool) (phases : List Phase) (place : ℕ) (other : Phase) (first old now : Written) → place < length phases
    → Stands (phases_weigh at alone phases) (phases_weigh (at + 4 * place) alone (drop place phases)) first old → Noted (phase_weighs (at + 4 * place) alone (get_or phases place other)) old now
    → Stands (phases_weigh at alone phases) (phases_weigh (at + 4 * (place + 1)) alone (drop (place + 1) phases)) first now
phase_more at alone phases place other first old now within before noted =
    let phase : Phase = get_or phases place other in
    let rest : List Phase = drop (place + 1) phases in
    let next : at + 4 * place + 4 ≡ at + 4 * (place + 1) = omega arith in
    one_more (phases_weigh at alone phases) (phases_weigh (at + 4 * place) alone (drop place phases)) (phase_weighs (at + 4 * place) alone phase) (phases_weigh (at + 4 * (place + 1)) alone rest) first old now
    (λ address value.
    ap (λ ps. phases_weigh (at + 4 * place) alone ps address value) (drop_more phases place other within)
    ∙ first_of_phases (at + 4 * place) alone phase rest address value
    ∙ ap (λ n. phase_weighs (at + 4 * place) alone phase address value + phases_weigh n alone rest address value) next)
    before noted

pub phases_done : (at : ℕ) (alone : Bool) (phases : List Phase) (place : ℕ) (first now : Written) → length phases ≤ place
    → Stands (phases_weigh at alone phases) (phases_weigh (at + 4 * place) alone (drop place phases)) first now → Noted (phases_weigh at alone phases) first now
phases_done at alone phases place first now past stands =
    none_left (phases_weigh at alone phases) (phases_weigh (at + 4 * place) alone (drop place phases)) first now
    (λ address value. ap (λ ps. phases_weigh (at + 4 * place) alone ps address value) (drop_all place phases past)) stands

-- nothing was noted before
pub all_noted : (masters : List Master) (first now : Written) → first.weights.entries ≡ [] → first.parts.keys ≡ [] → Noted (masters_weigh masters) first now → IsWritten masters now
all_noted masters first now weights parts noted =
    record {
      each = λ address value small.
          let one : WrittenValue = record { address = address; value = value } in
          let empty : weight_at first address value ≡ 0 =
          ap (λ es. cond (is_noted first.parts.keys address) 2 (min (weight_in es one) 2)) weights ∙ ap (λ keys. cond (is_noted keys address) 2 (min 0 2)) parts in
          noted.each address value small
          ∙ ap (λ n. min (n + masters_weigh masters address value) 2) empty
          ∙ ap (λ n. min n 2) (sym (zero_more (masters_weigh masters address value)));
    }

-- What a table has of a value behind a change.

same_true : (a b : WrittenValue) → same_value a b ≡ true → a ≡ b
same_true a b is =
    let parts = and_parts (eqb a.address b.address) (eqb a.value b.value) is in
    let of : ℕ → ℕ → WrittenValue = λ address value. record { address = address; value = value } in
    ap (λ n. of n a.value) (eqb-true a.address b.address parts.0) ∙ ap (of b.address) (eqb-true a.value b.value parts.1)

pub value_changed : (one q : WrittenValue) (found sum weight : ℕ) (old now : List (WrittenValue × ℕ)) → found ≡ weight_in old one → sum ≡ min (found + weight) 2
    → lookup (same_value q) now ≡ cond (same_value one q) (Some sum) (lookup (same_value q) old)
    → weight_in now q ≡ cond (same_value one q) (min (weight_in old q + weight) 2) (weight_in old q)
value_changed one q found sum weight old now found_is sum_is changed =
    let P : Bool → Type 0 = λ b. same_value one q ≡ b → unwrap_or (cond b (Some sum) (lookup (same_value q) old)) 0 ≡ cond b (min (weight_in old q + weight) 2) (weight_in old q) in
    ap (λ (o : Option ℕ). unwrap_or o 0) changed
    ∙ (elim (same_value one q) as P [
      | true ↦ λ same. sum_is ∙ ap (λ n. min (n + weight) 2) (found_is ∙ ap (weight_in old) (same_true one q same))
      | false ↦ λ _. refl
    ]) refl

pub also_noted : (here noted : Bool) → cond here true noted ≡ (here || noted)
also_noted true noted = refl
also_noted false noted = refl
