-- Which writes of runs are not settled with others, and which runs come before a read.
use Rattle.std.proofs.Common.{◌≡◌, ℕ, zero, suc, ◌+◌, ◌-◌, ◌<◌, ◌≤◌, Bool, true, false, not, ◌&&◌, ◌||◌, cond, List, [], ◌∷◌, ◌++◌, nat_lt, length, drop, get_or, slice_get, map, Option, Some, None, refl, sym, ap, subst, ◌∙◌, arith}
use Rattle.std.specs.List.{filter, list_any, prefix_len, AllByRecursion}
use Rattle.std.specs.Option.{option_map}
use Rattle.std.specs.List.Sorted.{IsPartitionedBy}
use Rattle.std.proofs.Math.Seq.{drop-cons}
use Rattle.std.proofs.lemmas.List.{map-append, drop_all}
use Rattle.std.proofs.lemmas.Bool.Decides.{nat_tests}
use Rattle.std.proofs.lemmas.Option.{same_Some, none-some, slice_get-get_or}
use Rattle.list_facts.proofs.EachLemmas.{Each-weaker}
use Rattle.pci_command.specs.declared.op_id.OpId.{OpId}
use Rattle.pci_command.specs.Same.{same_op}
use Rattle.history_model.proofs.facts.RequestLemmas.{same_op_true}
use Rattle.board_model.specs.declared.board.Board.{Board}
use Rattle.safe_model.specs.Clocks.{Table}
use Rattle.safe_model.specs.largest.Tests.{is_before, lands_no_more}
use Rattle.safe_model.specs.largest.Largest.{IsLargest}
use Rattle.safe_model.specs.said.Said.{is_settled, is_open}
use Rattle.board_writes.specs.declared.writers.write.WordWrite.{WordWrite}
use Rattle.board_writes.specs.Writes.{op_in}
use Rattle.safe_said.specs.Landing.{is_chained, AreChained}
use Rattle.board_writes.specs.Stretches.{joined}
use Rattle.safe_said.proofs.ChainLemmas.{NoMore, Chain, through, chain_of}
use Rattle.safe_said.proofs.RunLemmas.{before_through, op_at, no_op_at}

-- Lists.

any_append : (test : OpId → Bool) (xs ys : List OpId) → list_any test (xs ++ ys) ≡ (list_any test xs || list_any test ys)
any_append test [] ys = refl
any_append test (x ∷ xs) ys =
    let P : Bool → Type 0 = λ b. (b || list_any test (xs ++ ys)) ≡ ((b || list_any test xs) || list_any test ys) in
    elim (test x) as P [ true ↦ refl | false ↦ any_append test xs ys ]

none_any : (test : OpId → Bool) (xs : List OpId) → AllByRecursion (λ (x : OpId). test x ≡ false) xs → list_any test xs ≡ false
none_any test [] each = refl
none_any test (x ∷ xs) each = ap (λ b. b || list_any test xs) each.0 ∙ none_any test xs each.1

filter_append : (test : OpId → Bool) (xs ys : List OpId) → filter test (xs ++ ys) ≡ filter test xs ++ filter test ys
filter_append test [] ys = refl
filter_append test (x ∷ xs) ys =
    let P : Bool → Type 0 = λ b. cond b (x ∷ filter test (xs ++ ys)) (filter test (xs ++ ys)) ≡ cond b (x ∷ filter test xs) (filter test xs) ++ filter test ys in
    let later = filter_append test xs ys in
    elim (test x) as P [ true ↦ ap (λ (os : List OpId). x ∷ os) later | false ↦ later ]

each_at : (P : OpId → Type 0) (run : List WordWrite) (j : ℕ) (d : WordWrite) → AllByRecursion P (map op_in run) → j < length run → P (get_or run j d).op
each_at P [] j d each within = absurd (omega (arith, within))
each_at P (w ∷ run) zero d each within = each.0
each_at P (w ∷ run) (suc j) d each within = each_at P run j d each.1 (omega (arith, within))

-- A write and a run.

module _ (board : Board) (table : Table) (is_largest : IsLargest board table) where
  -- what a binary search asks
  settled_parted : (w : OpId) (run : List WordWrite) → Chain board table (map op_in run) → IsPartitionedBy (λ (x : WordWrite). lands_no_more board table x.op w) run
  settled_parted w [] chain i j d order within passed = absurd (omega (arith, within))
  settled_parted w (x ∷ run) chain zero zero d order within passed = passed
  settled_parted w (x ∷ run) chain zero (suc j) d order within passed =
      let more : NoMore board table x.op (get_or run j d).op = each_at (NoMore board table x.op) run j d chain.0 (omega (arith, within)) in
      through board table is_largest x.op (get_or run j d).op w more passed
  settled_parted w (x ∷ run) chain (suc i) zero d order within passed = absurd (omega (arith, order))
  settled_parted w (x ∷ run) chain (suc i) (suc j) d order within passed = settled_parted w run chain.1 i j d (omega (arith, order)) (omega (arith, within)) passed

  pub is_settled_parted : (w : OpId) (run : List WordWrite) → is_chained board table (map op_in run) ≡ true → IsPartitionedBy (λ (x : WordWrite). lands_no_more board table x.op w) run
  is_settled_parted w run chained = settled_parted w run (chain_of board table is_largest (map op_in run) chained)

  module _ (w : OpId) where
    abbrev pub open_to : OpId → Bool
    open_to b = not (same_op w b) && not (is_settled board table w b)

    abbrev pub open_next : OpId → Bool
    open_next b = not (same_op w b) && not (lands_no_more board table w b)

    abbrev pub open_at : Option OpId → Bool
    open_at None = false
    open_at (Some b) = open_next b

    and_no : (b : Bool) → (b && false) ≡ false
    and_no true = refl
    and_no false = refl

    or_yes : (b : Bool) → (b || true) ≡ true
    or_yes true = refl
    or_yes false = refl

    ahead_shut : (b : OpId) → NoMore board table w b → open_to b ≡ false
    ahead_shut b is = ap (λ t. not (same_op w b) && not (t || lands_no_more board table b w)) is ∙ and_no (not (same_op w b))

    behind_shut : (b : OpId) → NoMore board table b w → open_to b ≡ false
    behind_shut b is = ap (λ t. not (same_op w b) && not (lands_no_more board table w b || t)) is ∙ ap (λ t. not (same_op w b) && not t) (or_yes (lands_no_more board table w b)) ∙ and_no (not (same_op w b))

    all_shut : (xs : List OpId) → AllByRecursion (NoMore board table w) xs → list_any open_to xs ≡ false
    all_shut xs each = none_any open_to xs (Each-weaker (NoMore board table w) (λ (b : OpId). open_to b ≡ false) ahead_shut xs each)

    -- where the first does not land before it: it is open to that, or to none
    from_first : (x : OpId) (xs : List OpId) → Chain board table (x ∷ xs) → lands_no_more board table x w ≡ false → open_next x ≡ (open_to x || list_any open_to xs)
    from_first x xs chain none =
        let P : Bool → Type 0 = λ s. same_op w x ≡ s → (not s && not (lands_no_more board table w x)) ≡ ((not s && not (lands_no_more board table w x || lands_no_more board table x w)) || list_any open_to xs) in
        (elim (same_op w x) as P [
          | true ↦ λ same.
              let each : AllByRecursion (NoMore board table w) xs = subst (λ o. AllByRecursion (NoMore board table o) xs) (sym (same_op_true w x same)) chain.0 in
              sym (all_shut xs each)
          | false ↦ λ _.
              let Q : Bool → Type 0 = λ t. lands_no_more board table w x ≡ t → not t ≡ (not (t || lands_no_more board table x w) || list_any open_to xs) in
              (elim (lands_no_more board table w x) as Q [
                | true ↦ λ is. sym (all_shut xs (Each-weaker (NoMore board table x) (NoMore board table w) (λ b more. through board table is_largest w x b is more) xs chain.0))
                | false ↦ λ _. sym (ap (λ t. not t || list_any open_to xs) none)
              ]) refl
        ]) refl

    -- the first of a run that does not land before it says whether it is open to one
    open_is : (xs : List OpId) → Chain board table xs → open_at (slice_get xs (prefix_len (λ b. lands_no_more board table b w) xs)) ≡ list_any open_to xs
    open_is [] chain = refl
    open_is (x ∷ xs) chain =
        let n : ℕ = prefix_len (λ b. lands_no_more board table b w) xs in
        let one_more : suc n ≡ 1 + n = omega arith in
        let P : Bool → Type 0 = λ t. lands_no_more board table x w ≡ t → open_at (slice_get (x ∷ xs) (cond t (1 + n) 0)) ≡ (open_to x || list_any open_to xs) in
        (elim (lands_no_more board table x w) as P [
          | true ↦ λ is.
              let later : open_at (slice_get (x ∷ xs) (1 + n)) ≡ list_any open_to xs = subst (λ k. open_at (slice_get (x ∷ xs) k) ≡ list_any open_to xs) one_more (open_is xs chain.1) in
              later ∙ sym (ap (λ t. t || list_any open_to xs) (behind_shut x is))
          | false ↦ λ none. from_first x xs chain none
        ]) refl

    pub some_open : (run : List WordWrite) (count : ℕ) (b : WordWrite) → is_chained board table (map op_in run) ≡ true → count ≡ prefix_len (λ o. lands_no_more board table o w) (map op_in run) → count < length run → b ≡ get_or run count b → open_next b.op ≡ is_open board table (map op_in run) w
    some_open run count b chained count_is within is =
        ap open_at (sym (op_at run count b within is))
        ∙ ap (λ n. open_at (slice_get (map op_in run) n)) count_is
        ∙ open_is (map op_in run) (chain_of board table is_largest (map op_in run) chained)

    pub none_open : (run : List WordWrite) (count : ℕ) → is_chained board table (map op_in run) ≡ true → count ≡ prefix_len (λ o. lands_no_more board table o w) (map op_in run) → nat_lt count (length run) ≡ false → false ≡ is_open board table (map op_in run) w
    none_open run count chained count_is ge =
        let past : length run ≤ count = grind (arith, nat_tests) in
        ap open_at (sym (no_op_at run count past))
        ∙ ap (λ n. open_at (slice_get (map op_in run) n)) count_is
        ∙ open_is (map op_in run) (chain_of board table is_largest (map op_in run) chained)

  -- A run and a read.

  kept_all : (test : OpId → Bool) (xs : List OpId) → AllByRecursion (λ (x : OpId). test x ≡ true) xs → filter test xs ≡ xs
  kept_all test [] each = refl
  kept_all test (x ∷ xs) each = ap (λ t. cond t (x ∷ filter test xs) (filter test xs)) each.0 ∙ ap (λ (os : List OpId). x ∷ os) (kept_all test xs each.1)

  -- what holds of the last of a run and goes back along it holds of all
  last_each : (P : OpId → Type 0) → ((a b : OpId) → NoMore board table a b → P b → P a) → (run : List WordWrite) (last : OpId) → Chain board table (map op_in run) → Some last ≡ option_map op_in (slice_get run (length run - 1)) → P last → AllByRecursion P (map op_in run)
  last_each P back [] last chain is so = tt
  last_each P back (x ∷ []) last chain is so = (subst P (same_Some last x.op is) so, tt)
  last_each P back (x ∷ y ∷ run) last chain is so =
      let less : length (x ∷ y ∷ run) - 1 ≡ suc (length (y ∷ run) - 1) = omega arith in
      let there : Some last ≡ option_map op_in (slice_get (y ∷ run) (length (y ∷ run) - 1)) = is ∙ ap (λ n. option_map op_in (slice_get (x ∷ y ∷ run) n)) less in
      let later = last_each P back (y ∷ run) last chain.1 there so in
      (back x.op y.op chain.0.0 later.0, later)

  pub run_before : (r : OpId) (run : List WordWrite) (last : OpId) → is_chained board table (map op_in run) ≡ true → Some last ≡ option_map op_in (slice_get run (length run - 1)) → is_before board table last r ≡ true
      → filter (λ w. is_before board table w r) (map op_in run) ≡ map op_in run
  run_before r run last chained is before =
      let chain : Chain board table (map op_in run) = chain_of board table is_largest (map op_in run) chained in
      kept_all (λ w. is_before board table w r) (map op_in run) (last_each (λ b. is_before board table b r ≡ true) (λ a b more later. before_through board table is_largest a b r more later) run last chain is before)

pub no_run_before : (board : Board) (table : Table) (r : OpId) (run : List WordWrite) → None ≡ option_map op_in (slice_get run (length run - 1)) → filter (λ w. is_before board table w r) (map op_in run) ≡ map op_in run
no_run_before board table r [] none = refl
no_run_before board table r (w ∷ run) none =
    let n : ℕ = length (w ∷ run) - 1 in
    let there : slice_get (w ∷ run) n ≡ Some (get_or (w ∷ run) n w) = slice_get-get_or (w ∷ run) n w (omega arith) in
    absurd (none-some (get_or (w ∷ run) n w).op (none ∙ ap (option_map op_in) there))

-- Run after run.

runs_cons : (runs : List (List WordWrite)) (i : ℕ) (item run : List WordWrite) → i < length runs → item ≡ get_or runs i item → run ≡ item → map op_in (joined (drop i runs)) ≡ map op_in run ++ map op_in (joined (drop (i + 1) runs))
runs_cons runs i item run within is same =
    let more : suc i ≡ i + 1 = omega arith in
    ap (map op_in) (ap joined (drop-cons runs i item within) ∙ ap (λ ws. ws ++ joined (drop (suc i) runs)) (sym is ∙ sym same) ∙ ap (λ n. run ++ joined (drop n runs)) more)
    ∙ map-append op_in run (joined (drop (i + 1) runs))

module _ (test : OpId → Bool) (runs : List (List WordWrite)) where
  pub none_yet : (i : ℕ) (item run : List WordWrite) → i < length runs → item ≡ get_or runs i item → run ≡ item → list_any test (map op_in run) ≡ false → list_any test (map op_in (joined (drop i runs))) ≡ list_any test (map op_in (joined runs)) → list_any test (map op_in (joined (drop (i + 1) runs))) ≡ list_any test (map op_in (joined runs))
  none_yet i item run within is same none so_far =
      let rest : List OpId = map op_in (joined (drop (i + 1) runs)) in
      sym (ap (list_any test) (runs_cons runs i item run within is same) ∙ any_append test (map op_in run) rest ∙ ap (λ b. b || list_any test rest) none) ∙ so_far

  pub one_now : (i : ℕ) (item run : List WordWrite) → i < length runs → item ≡ get_or runs i item → run ≡ item → list_any test (map op_in run) ≡ true → list_any test (map op_in (joined (drop i runs))) ≡ list_any test (map op_in (joined runs)) → true ≡ list_any test (map op_in (joined runs))
  one_now i item run within is same some so_far =
      let rest : List OpId = map op_in (joined (drop (i + 1) runs)) in
      sym (ap (list_any test) (runs_cons runs i item run within is same) ∙ any_append test (map op_in run) rest ∙ ap (λ b. b || list_any test rest) some) ∙ so_far

  pub none_at_last : (i : ℕ) → length runs ≤ i → list_any test (map op_in (joined (drop i runs))) ≡ list_any test (map op_in (joined runs)) → false ≡ list_any test (map op_in (joined runs))
  none_at_last i past so_far = sym (ap (λ rs. list_any test (map op_in (joined rs))) (drop_all i runs past)) ∙ so_far

  -- those that are left are kept, so all are
  pub record KeptIf (rest : List (List WordWrite)) : Type 0 where
    pub so : filter test (map op_in (joined rest)) ≡ map op_in (joined rest) → filter test (map op_in (joined runs)) ≡ map op_in (joined runs)

  pub kept_begin : KeptIf runs
  kept_begin = record { so = λ is. is }

  pub kept_on : (i : ℕ) (item run : List WordWrite) → i < length runs → item ≡ get_or runs i item → run ≡ item → filter test (map op_in run) ≡ map op_in run → KeptIf (drop i runs) → KeptIf (drop (i + 1) runs)
  kept_on i item run within is same here so_far = record {
    so = λ later.
        let rest : List OpId = map op_in (joined (drop (i + 1) runs)) in
        let cons = runs_cons runs i item run within is same in
        so_far.so (ap (filter test) cons ∙ filter_append test (map op_in run) rest ∙ ap (λ os. os ++ filter test rest) here ∙ ap (λ os. map op_in run ++ os) later ∙ sym cons);
  }

  pub kept_over : (i : ℕ) → length runs ≤ i → KeptIf (drop i runs) → filter test (map op_in (joined runs)) ≡ map op_in (joined runs)
  kept_over i past so_far =
      let none : map op_in (joined (drop i runs)) ≡ [] = ap (λ rs. map op_in (joined rs)) (drop_all i runs past) in
      so_far.so (ap (filter test) none ∙ sym none)

-- each of these runs is one
each_run : (board : Board) (table : Table) (runs : List (List WordWrite)) (j : ℕ) (d : List WordWrite) → AreChained board table runs → j < length runs → is_chained board table (map op_in (get_or runs j d)) ≡ true
each_run board table [] j d each within = absurd (omega (arith, within))
each_run board table (r ∷ rs) zero d each within = each.0
each_run board table (r ∷ rs) (suc j) d each within = each_run board table rs j d each.1 (omega (arith, within))

pub chained_at : (board : Board) (table : Table) (runs : List (List WordWrite)) (i : ℕ) (item run : List WordWrite) → i < length runs → item ≡ get_or runs i item → run ≡ item → AreChained board table runs → is_chained board table (map op_in run) ≡ true
chained_at board table runs i item run within is same each = subst (λ (ws : List WordWrite). is_chained board table (map op_in ws) ≡ true) (sym (same ∙ is)) (each_run board table runs i item each within)
