-- The lines of one number more.
use Rattle.std.proofs.Common.{◌≡◌, ℕ, ◌+◌, zero, suc, List, [], ◌∷◌, ◌++◌, ap, ◌∙◌, arith, append-nil, append_assoc, sym}
use Rattle.std.specs.List.{flat_map, range_with_len}
use Rattle.std.proofs.lemmas.List.Concat.{flat_map-append}

more_numbers : (a n : ℕ) → range_with_len a (n + 1) ≡ range_with_len a n ++ (a + n) ∷ []
more_numbers a zero = let one : zero + 1 ≡ suc zero = omega arith in ap (range_with_len a) one ∙ ap (λ (m : ℕ). m ∷ []) (omega arith)
more_numbers a (suc n) =
    let more : suc n + 1 ≡ suc (n + 1) = omega arith in
    let rest = more_numbers (a + 1) n in
    ap (range_with_len a) more ∙ ap (λ (l : List ℕ). a ∷ l) (rest ∙ ap (λ (m : ℕ). range_with_len (a + 1) n ++ m ∷ []) (omega arith))

-- what is written of the next number stands behind that of those before it
pub lines_more : (part : ℕ → List ℕ) (n : ℕ) (old text longer : List ℕ) → text ≡ old ++ flat_map part (range_with_len 0 n) → longer ≡ text ++ part n → longer ≡ old ++ flat_map part (range_with_len 0 (n + 1))
lines_more part n old text longer so is =
    let front : List ℕ = flat_map part (range_with_len 0 n) in
    let next : flat_map part (range_with_len 0 (n + 1)) ≡ front ++ part n =
    ap (flat_map part) (more_numbers 0 n ∙ ap (λ (m : ℕ). range_with_len 0 n ++ m ∷ []) (omega arith))
    ∙ flat_map-append part (range_with_len 0 n) (n ∷ []) ∙ ap (λ (l : List ℕ). front ++ l) (append-nil (part n)) in
    is ∙ ap (λ (t : List ℕ). t ++ part n) so ∙ append_assoc old front (part n) ∙ ap (λ (t : List ℕ). old ++ t) (sym next)
