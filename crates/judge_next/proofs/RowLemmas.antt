-- Rows that grow, and flags that change, at one place.
use Rattle.std.proofs.Common.{◌≡◌, ◌≢◌, ℕ, zero, suc, ◌+◌, ◌<◌, ◌≤◌, Bool, true, false, eqb, List, [], ◌∷◌, ◌++◌, length, replicate, get_or, Some, refl, sym, ap, subst, ◌∙◌, slice_get, arith}
use Rattle.std.proofs.lemmas.Bool.{eqb-true, eqb-false}
use Rattle.std.proofs.lemmas.List.{length-append, length-set}
use Rattle.std.proofs.lemmas.Option.{slice_get_within, slice_get-get_or}
use Rattle.std.proofs.Math.ListN.{set}
use Rattle.circular_buffer.proofs.Places.{slice_get-last, slice_get-append_left, slice_get-set_same, slice_get-set_other}

-- a row of what each number gives grows by what the next one gives
pub row_more : {X : Type 0} (gives : ℕ → X) (xs : List X) (x : X) (n : ℕ) → length xs ≡ n → ((k : ℕ) → k < n → slice_get xs k ≡ Some (gives k)) → x ≡ gives n
    → (length (xs ++ x ∷ []) ≡ n + 1) × ((k : ℕ) → k < n + 1 → slice_get (xs ++ x ∷ []) k ≡ Some (gives k))
row_more {X} gives xs x n long row is = (
  length-append xs (x ∷ []) ∙ ap (λ m. m + 1) long,
  λ k below.
      let P : Bool → Type 0 = λ b. eqb k n ≡ b → slice_get (xs ++ x ∷ []) k ≡ Some (gives k) in
      (elim (eqb k n) as P [
        | true ↦ λ same.
            let at : k ≡ n = eqb-true k n same in
            slice_get-last xs x k (at ∙ sym long) ∙ ap Some (is ∙ ap gives (sym at))
        | false ↦ λ differ.
            let apart : k ≢ n = eqb-false k n differ in
            let within : k < n = omega (arith, below, apart) in
            slice_get-append_left xs (x ∷ []) k (omega (arith, within, long)) ∙ row k within
      ]) refl,
)

-- a flag that stands after another was taken down stood before, and is not that one
pub stood_before : (flags : List Bool) (place k : ℕ) → slice_get (set flags place false) k ≡ Some true → (place ≢ k) × (slice_get flags k ≡ Some true)
stood_before flags place k is =
    let P : Bool → Type 0 = λ b. eqb k place ≡ b → (place ≢ k) × (slice_get flags k ≡ Some true) in
    (elim (eqb k place) as P [
      | true ↦ λ same.
          let at : k ≡ place = eqb-true k place same in
          let here : slice_get (set flags place false) place ≡ Some true = subst (λ (n : ℕ). slice_get (set flags place false) n ≡ Some true) at is in
          let inside : place < length (set flags place false) = slice_get_within (set flags place false) place true here in
          let within : place < length flags = omega (arith, inside, length-set flags place false) in
          let down : slice_get (set flags place false) place ≡ Some false = slice_get-set_same flags place false within in
          absurd cc
      | false ↦ λ differ.
          let apart : k ≢ place = eqb-false k place differ in
          (λ same. apart (sym same), sym (slice_get-set_other flags place k false apart) ∙ is)
    ]) refl

-- where no flag stands, none does
pub none_stands : (n k : ℕ) → slice_get (replicate n false) k ≡ Some true → ⊥
none_stands zero k is = cc
none_stands (suc n) zero is = cc
none_stands (suc n) (suc k) is = none_stands n k is

-- a place below the length of a row holds what stands there
pub read_there : {X : Type 0} (xs : List X) (i : ℕ) (x y : X) → i < length xs → x ≡ get_or xs i x → slice_get xs i ≡ Some y → x ≡ y
read_there xs i x y below is there =
    let same : Some x ≡ Some y = ap Some is ∙ (sym (slice_get-get_or xs i x below) ∙ there) in
    cc

-- and a place above it holds nothing
pub none_there : {X : Type 0} (xs : List X) (i : ℕ) (y : X) → length xs ≤ i → slice_get xs i ≡ Some y → ⊥
none_there xs i y above there = absurd (omega (arith, above, slice_get_within xs i y there))
