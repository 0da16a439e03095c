-- Rows of numbers, one number after another: whether they tell more than is known.
use Rattle.std.proofs.Common.{◌≡◌, ℕ, suc, ◌+◌, ◌-◌, ◌<◌, ◌≤◌, ◌==◌, Bool, true, false, nat_lt, cond, List, [], ◌∷◌, ◌++◌, length, take, drop, get_or, refl, sym, ap, subst, ◌∙◌, arith}
use Rattle.std.proofs.Math.ListN.{get_or-eq_default}
use Rattle.std.proofs.Math.Seq.{drop-cons}
use Rattle.std.proofs.lemmas.List.{take-append-drop, drop_all}
use Rattle.std.proofs.lemmas.Bool.Decides.{nat_tests}
use Rattle.pci_command.specs.declared.op_id.OpId.{OpId}
use Rattle.safe_model.specs.Clocks.{greater}
use Rattle.board_writes.specs.Rows.{number, ProgramRows, known_in, lesser, raised_at}
use Rattle.board_writes.specs.declared.writers.write.WordWrite.{WordWrite}
use Rattle.board_writes.specs.Looks.{clock_in, clock_past, past_at, known_to, TellsNothing}
use Rattle.board_writes.proofs.RaiserLemmas.{known_append}

-- Numbers one by one.

module _ (numbers before : List ℕ) (o : OpId) where
  abbrev pub No_more : ℕ → Type 0
  No_more other = number numbers other ≤ raised_at (number before other) o other

  pub no_more_next : (i : ℕ) → ((k : ℕ) → k < i → No_more k) → No_more i → (k : ℕ) → k < i + 1 → No_more k
  no_more_next i so_far here k below =
      let P : Bool → Type 0 = λ b. nat_lt k i ≡ b → No_more k in
      (elim (nat_lt k i) as P [
        | true ↦ λ less. so_far k (grind (arith, nat_tests))
        | false ↦ λ not_less. let last : i ≡ k = grind (arith, nat_tests) in subst No_more last here
      ]) refl

  pub no_more_all : (i : ℕ) → length numbers ≤ i → ((k : ℕ) → k < i → No_more k) → (k : ℕ) → No_more k
  no_more_all i past so_far k =
      let P : Bool → Type 0 = λ b. nat_lt k i ≡ b → No_more k in
      (elim (nat_lt k i) as P [
        | true ↦ λ less. so_far k (grind (arith, nat_tests))
        | false ↦ λ not_less.
            let beyond : i ≤ k = grind (arith, nat_tests) in
            let none : number numbers k ≡ 0 = get_or-eq_default numbers 0 (omega (arith, past, beyond)) in
            omega (arith, none)
      ]) refl

-- What two operations know.

past_none : (known o i other : ℕ) → known ≡ 0 → o < other → cond (other == o) (greater known (i + 1)) known ≡ 0
past_none known o i other none beyond = grind (arith, nat_tests)

lesser_first : (a b : ℕ) → lesser a b ≤ a
lesser_first a b = grind (arith, nat_tests)

greater_both : (a b c : ℕ) → greater a b ≤ c → (a ≤ c) × (b ≤ c)
greater_both a b c most = (grind (arith, nat_tests), grind (arith, nat_tests))

module _ (rows : List ProgramRows) (ones others known : List ℕ) (first second then : OpId) where
  abbrev No_more_of : ℕ → Type 0
  No_more_of other = lesser (past_at (number ones other) first other) (past_at (number others other) second other) ≤ raised_at (number known other) then other

  no_more_beyond : (i : ℕ) → greater (length ones) (first.master + 1) ≤ i → (other : ℕ) → i ≤ other → No_more_of other
  no_more_beyond i past other beyond =
      let both = greater_both (length ones) (first.master + 1) i past in
      let long = both.0 in
      let far = both.1 in
      let none : number ones other ≡ 0 = get_or-eq_default ones 0 (omega (arith, long, beyond)) in
      let nothing : past_at (number ones other) first other ≡ 0 = past_none (number ones other) first.master first.index other none (omega (arith, far, beyond)) in
      let low = lesser_first (past_at (number ones other) first other) (past_at (number others other) second other) in
      omega (arith, nothing, low)

  -- as the rows have it
  pub tells_no_more : (i : ℕ) → ((other : ℕ) → number ones other ≡ known_in rows first.master first.index other) → ((other : ℕ) → number others other ≡ known_in rows second.master second.index other) → ((other : ℕ) → number known other ≡ known_in rows then.master then.index other)
      → greater (length ones) (first.master + 1) ≤ i → ((k : ℕ) → k < i → No_more_of k) → (other : ℕ) → lesser (clock_past rows first other) (clock_past rows second other) ≤ clock_in rows then other
  tells_no_more i ones_are others_are known_is past so_far other =
      let P : Bool → Type 0 = λ b. nat_lt other i ≡ b → No_more_of other in
      let here : No_more_of other = (elim (nat_lt other i) as P [
        | true ↦ λ less. so_far other (grind (arith, nat_tests))
        | false ↦ λ not_less. no_more_beyond i past other (grind (arith, nat_tests))
      ]) refl in
      subst (λ n. lesser (clock_past rows first other) (clock_past rows second other) ≤ raised_at n then other) (known_is other)
      (subst (λ n. lesser (clock_past rows first other) (past_at n second other) ≤ raised_at (number known other) then other) (others_are other)
      (subst (λ n. lesser (past_at n first other) (past_at (number others other) second other) ≤ raised_at (number known other) then other) (ones_are other) here))

-- Two raisers that tell nothing between them.

two_core : (a b most clock : ℕ) → lesser a b ≤ clock → cond (nat_lt b (cond (nat_lt a most) a most)) b (cond (nat_lt a most) a most) ≤ clock
two_core a b most clock low = grind (arith, nat_tests)

last_two : (found : List WordWrite) (d e : WordWrite) → 2 ≤ length found → take (length found - 2) found ++ get_or found (length found - 2) d ∷ (get_or found (length found - 1) e ∷ []) ≡ found
last_two found d e some =
    let i : ℕ = length found - 2 in
    let j : ℕ = length found - 1 in
    let next : suc i ≡ j = omega (arith, some) in
    let end : length found ≤ suc j = omega (arith, some) in
    let last : drop j found ≡ get_or found j e ∷ [] = drop-cons found j e (omega (arith, some)) ∙ ap (λ ws. get_or found j e ∷ ws) (drop_all (suc j) found end) in
    let two : drop i found ≡ get_or found i d ∷ (get_or found j e ∷ []) = drop-cons found i d (omega (arith, some)) ∙ ap (λ ws. get_or found i d ∷ ws) (ap (λ n. drop n found) next ∙ last) in
    ap (λ ws. take i found ++ ws) (sym two) ∙ take-append-drop i found

pub enough : (rows : List ProgramRows) (p : OpId) (found : List WordWrite) (d e : WordWrite) → 2 ≤ length found → ((other : ℕ) → lesser (clock_past rows (get_or found (length found - 2) d).op other) (clock_past rows (get_or found (length found - 1) e).op other) ≤ clock_in rows p other) → TellsNothing rows p found
enough rows p found d e some low =
    let a : WordWrite = get_or found (length found - 2) d in
    let b : WordWrite = get_or found (length found - 1) e in
    let front : List WordWrite = take (length found - 2) found in
    let all : TellsNothing rows p (front ++ a ∷ (b ∷ [])) = λ most other.
    let is = known_append rows front (a ∷ (b ∷ [])) most other in
    let here = two_core (clock_past rows a.op other) (clock_past rows b.op other) (known_to rows front most other) (clock_in rows p other) (low other) in
    omega (arith, is, here) in
    subst (TellsNothing rows p) (last_two found d e some) all
