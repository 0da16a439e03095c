-- Each write of a board is one of its operations.
use Rattle.std.proofs.Common.{◌≡◌, ℕ, zero, suc, ◌+◌, Bool, true, false, not, ◌||◌, nat_lt, cond, List, [], ◌∷◌, ◌++◌, Option, Some, None, is_some, slice_get, refl, sym, ap, subst, arith}
use Rattle.std.specs.List.{list_any}
use Rattle.std.specs.Option.{option_and_then}
use Rattle.std.proofs.lemmas.Bool.Decides.{nat_tests}
use Rattle.std.proofs.lemmas.Bool.{and_parts}
use Rattle.pci_command.specs.declared.command.Space.TheVariants.{Mem, Io, Cfg}
use Rattle.pci_command.specs.declared.op_id.OpId.{OpId}
use Rattle.pci_command.specs.Same.{same_op}
use Rattle.board_model.specs.declared.op.Op.{Op}
use Rattle.board_model.specs.declared.op.Op.TheVariants.{Read as ReadOp, Write, CfgRead, CfgWrite, Poll}
use Rattle.board_model.specs.declared.agents.Master.{Master}
use Rattle.board_model.specs.declared.board.Board.{Board}
use Rattle.board_model.specs.Requests.{tries_of, op_of, reads, reads_in}
use Rattle.history_model.specs.Knowledge.{is_write}
use Rattle.safe_model.specs.Ops.{ops_from, ops_by}

in_ops : (master index : ℕ) (ops : List Op) (place : ℕ) (op : Op) → slice_get ops place ≡ Some op → list_any (same_op (record { master = master; index = index + place; attempt = 0 })) (ops_from master index ops) ≡ true
in_ops master index [] place op some = cc
in_ops master index (first ∷ ops) zero op some =
    let self : same_op (record { master = master; index = index + zero; attempt = 0 }) (record { master = master; index = index; attempt = 0 }) ≡ true = grind (arith, nat_tests) in
    rw self refl
in_ops master index (first ∷ ops) (suc place) op some =
    let o : ℕ → OpId = λ n. record { master = master; index = n; attempt = 0 } in
    let moved : index + suc place ≡ (index + 1) + place = omega arith in
    let there : list_any (same_op (o ((index + 1) + place))) (ops_from master (index + 1) ops) ≡ true = in_ops master (index + 1) ops place op some in
    let here : list_any (same_op (o (index + suc place))) (ops_from master (index + 1) ops) ≡ true = subst (λ n. list_any (same_op (o n)) (ops_from master (index + 1) ops) ≡ true) (sym moved) there in
    let P : Bool → Type 0 = λ b. (b || list_any (same_op (o (index + suc place))) (ops_from master (index + 1) ops)) ≡ true in
    elim (same_op (o (index + suc place)) (o index)) as P [ true ↦ refl | false ↦ here ]

any-after : {X : Type 0} (test : X → Bool) (xs ys : List X) → list_any test ys ≡ true → list_any test (xs ++ ys) ≡ true
any-after test [] ys is = is
any-after test (x ∷ xs) ys is =
    let P : Bool → Type 0 = λ b. (b || list_any test (xs ++ ys)) ≡ true in
    elim (test x) as P [ true ↦ refl | false ↦ any-after test xs ys is ]

any-front : {X : Type 0} (test : X → Bool) (xs ys : List X) → list_any test xs ≡ true → list_any test (xs ++ ys) ≡ true
any-front test [] ys is = cc
any-front test (x ∷ xs) ys is =
    let P : Bool → Type 0 = λ b. (b || list_any test xs) ≡ true → (b || list_any test (xs ++ ys)) ≡ true in
    (elim (test x) as P [ true ↦ λ _. refl | false ↦ λ later. any-front test xs ys later ]) is

in_masters : (first : ℕ) (masters : List Master) (place : ℕ) (master : Master) (index : ℕ) (op : Op) → slice_get masters place ≡ Some master → slice_get master.ops index ≡ Some op
    → list_any (same_op (record { master = first + place; index = index; attempt = 0 })) (ops_by first masters) ≡ true
in_masters first [] place master index op some some_op = cc
in_masters first (m ∷ masters) zero master index op some some_op =
    let same : m ≡ master = cc in
    let o : ℕ → OpId = λ n. record { master = n; index = index; attempt = 0 } in
    let whole : 0 + index ≡ index = omega arith in
    let there : list_any (same_op (o first)) (ops_from first 0 m.ops) ≡ true = subst (λ n. list_any (same_op (record { master = first; index = n; attempt = 0 })) (ops_from first 0 m.ops) ≡ true) whole
    (in_ops first 0 m.ops index op (subst (λ (x : Master). slice_get x.ops index ≡ Some op) (sym same) some_op)) in
    let moved : first + zero ≡ first = omega arith in
    let here : list_any (same_op (o first)) (ops_from first 0 m.ops ++ ops_by (first + 1) masters) ≡ true = any-front (same_op (o first)) (ops_from first 0 m.ops) (ops_by (first + 1) masters) there in
    subst (λ n. list_any (same_op (o n)) (ops_from first 0 m.ops ++ ops_by (first + 1) masters) ≡ true) (sym moved) here
in_masters first (m ∷ masters) (suc place) master index op some some_op =
    let o : ℕ → OpId = λ n. record { master = n; index = index; attempt = 0 } in
    let moved : first + suc place ≡ (first + 1) + place = omega arith in
    let there = in_masters (first + 1) masters place master index op some some_op in
    let here : list_any (same_op (o (first + suc place))) (ops_by (first + 1) masters) ≡ true = subst (λ n. list_any (same_op (o n)) (ops_by (first + 1) masters) ≡ true) (sym moved) there in
    any-after (same_op (o (first + suc place))) (ops_from first 0 m.ops) (ops_by (first + 1) masters) here

write_tries : (op : Op) → reads_in (Some op) ≡ false → tries_of op ≡ 1
write_tries (ReadOp command address) other = refl
write_tries (Write command address phases) other = refl
write_tries (CfgRead bus device register) other = refl
write_tries (CfgWrite bus device register phase) other = refl
write_tries (Poll Mem address want tries) other = cc
write_tries (Poll Io address want tries) other = cc
write_tries (Poll Cfg address want tries) other = cc

-- a write that is there
pub write_listed : (board : Board) (w : OpId) → is_write board w ≡ true → list_any (same_op w) (ops_by 0 board.masters) ≡ true
write_listed board w is =
    let parts = and_parts (is_some (op_of board w)) (not (reads board w)) is in
    let Goal : Type 0 = list_any (same_op w) (ops_by 0 board.masters) ≡ true in
    let here : Op → Option Op = λ p. cond (nat_lt w.attempt (tries_of p)) (Some p) None in
    let P : Option Master → Type 0 = λ found. slice_get board.masters w.master ≡ found → is_some (option_and_then here (option_and_then (λ master. slice_get master.ops w.index) found)) ≡ true
    → not (reads_in (option_and_then here (option_and_then (λ master. slice_get master.ops w.index) found))) ≡ true → Goal in
    (elim (slice_get board.masters w.master) as P [
      | None ↦ λ _ e f. cc
      | Some master ↦ λ is_master e f.
          let Q : Option Op → Type 0 = λ found. slice_get master.ops w.index ≡ found → is_some (option_and_then here found) ≡ true → not (reads_in (option_and_then here found)) ≡ true → Goal in
          (elim (slice_get master.ops w.index) as Q [
            | None ↦ λ _ g k. cc
            | Some op ↦ λ is_op g k.
                let R : Bool → Type 0 = λ b. nat_lt w.attempt (tries_of op) ≡ b → is_some (cond b (Some op) None) ≡ true → not (reads_in (cond b (Some op) None)) ≡ true → Goal in
                (elim (nat_lt w.attempt (tries_of op)) as R [
                  | true ↦ λ below _ writes.
                      let S : Bool → Type 0 = λ b. reads_in (Some op) ≡ b → not b ≡ true → reads_in (Some op) ≡ false in
                      let other : reads_in (Some op) ≡ false = (elim (reads_in (Some op)) as S [ true ↦ λ _ m. cc | false ↦ λ no_it _. no_it ]) refl writes in
                      let one : tries_of op ≡ 1 = write_tries op other in
                      let first_try : w.attempt ≡ 0 = grind (arith, nat_tests) in
                      let built : ℕ → OpId = λ n. record { master = w.master; index = w.index; attempt = n } in
                      let whole : built 0 ≡ w = ap built (sym first_try) in
                      let moved : 0 + w.master ≡ w.master = omega arith in
                      let there = in_masters 0 board.masters w.master master w.index op is_master is_op in
                      let there2 : list_any (same_op (built 0)) (ops_by 0 board.masters) ≡ true = subst (λ n. list_any (same_op (record { master = n; index = w.index; attempt = 0 })) (ops_by 0 board.masters) ≡ true) moved there in
                      subst (λ o. list_any (same_op o) (ops_by 0 board.masters) ≡ true) whole there2
                  | false ↦ λ _ m _. cc
                ]) refl g k
          ]) refl e f
    ]) refl parts.0 parts.1
