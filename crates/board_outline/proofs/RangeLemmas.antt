-- One bus more, and one step deeper.
use Rattle.std.proofs.Common.{◌≡◌, ℕ, ◌+◌, zero, suc, List, [], ◌∷◌, ◌++◌, sym, ap, ◌∙◌, arith, append_assoc, append-nil}
use Rattle.std.specs.List.{flat_map, repeat, range_with_len}
use Rattle.std.proofs.lemmas.List.Concat.{flat_map-append}

range_more : (a n : ℕ) → range_with_len a (n + 1) ≡ range_with_len a n ++ (a + n) ∷ []
range_more a zero =
    let one : zero + 1 ≡ suc zero = omega arith in
    ap (range_with_len a) one ∙ ap (λ (m : ℕ). m ∷ []) (omega arith)
range_more a (suc n) =
    let more : suc n + 1 ≡ suc (n + 1) = omega arith in
    ap (range_with_len a) more ∙ ap (λ (l : List ℕ). a ∷ l) (range_more (a + 1) n ∙ ap (λ (m : ℕ). range_with_len (a + 1) n ++ m ∷ []) (omega arith))

-- the text of one number more
pub text_more : (part : ℕ → List ℕ) (n : ℕ) → flat_map part (range_with_len 0 (n + 1)) ≡ flat_map part (range_with_len 0 n) ++ part n
text_more part n =
    ap (flat_map part) (range_more 0 n ∙ ap (λ (m : ℕ). range_with_len 0 n ++ m ∷ []) (omega arith))
    ∙ flat_map-append part (range_with_len 0 n) (n ∷ [])
    ∙ ap (λ (l : List ℕ). flat_map part (range_with_len 0 n) ++ l) (append-nil (part n))

repeat_last : (n : ℕ) (xs : List ℕ) → repeat n xs ++ xs ≡ xs ++ repeat n xs
repeat_last zero xs = sym (append-nil xs)
repeat_last (suc n) xs = append_assoc xs (repeat n xs) xs ∙ ap (λ (l : List ℕ). xs ++ l) (repeat_last n xs)

-- once more
pub repeat_more : (n : ℕ) (xs : List ℕ) → repeat (n + 1) xs ≡ repeat n xs ++ xs
repeat_more n xs =
    let more : n + 1 ≡ suc n = omega arith in
    ap (λ (m : ℕ). repeat m xs) more ∙ sym (repeat_last n xs)
