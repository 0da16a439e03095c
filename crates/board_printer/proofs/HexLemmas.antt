-- What `{:08x}` and `{:04x}` write are the eight and the four low digits of the number.
use Rattle.std.proofs.Common.{◌≡◌, ℕ, zero, suc, ◌+◌, ◌-◌, ◌*◌, ◌/◌, ◌%◌, ◌^◌, ◌<◌, ◌≤◌, Bool, true, false, cond, eqb, List, [], ◌∷◌, ◌++◌, length, replicate, refl, ap, subst, ◌∙◌, append_assoc, append-nil, arith}
use Rattle.std.specs.Fmt.{digit_glyph, digits_onto, digits, padded_integral, format_spec}
use Rattle.std.proofs.lemmas.List.{replicate_more}
use Rattle.std.proofs.Math.Nat.{pow-suc}
use Rattle.std.proofs.lemmas.Bool.{eqb-true, eqb-false}
use Rattle.std.proofs.lemmas.Fmt.{hex_one_digit}
use Rattle.std.proofs.Padding.{padded_integral_zeros}
use Rattle.board_printer.specs.Numbers.{hex, word_text, half_text}

-- the digits of 0 are zeros
hex-zero : (k : ℕ) → hex k 0 ≡ replicate k 48
hex-zero zero = refl
hex-zero (suc k) = ap (λ (l : List ℕ). l ++ 48 ∷ []) (hex-zero k) ∙ replicate_more k 48 ∙ ap (λ (j : ℕ). replicate j 48) {x = k + 1} {y = suc k} (omega arith)

-- a number with a digit before its last has more than one digit
digits_left : (k n : ℕ) → n < 16 ^ suc k → 0 < n / 16 → 0 < k
digits_left zero n small some = absurd (omega arith)
digits_left (suc k) n small some = omega arith

-- and one digit less without its last
front_small : (k n : ℕ) → n < 16 ^ suc k → n / 16 < 16 ^ k
front_small k n small = let step : 16 ^ suc k ≡ 16 ^ k * 16 = pow-suc 16 k in omega arith

-- the digits without leading zeros, and zeros before them up to k digits
digits_onto-filled : (k f n : ℕ) (acc : List ℕ) → 0 < k → k ≤ f → n < 16 ^ k
    → replicate (k + length acc - length (digits_onto f 16 false n acc)) 48 ++ digits_onto f 16 false n acc ≡ hex k n ++ acc
digits_onto-filled zero f n acc some within small = absurd (omega arith)
digits_onto-filled (suc k) zero n acc some within small = absurd (omega arith)
digits_onto-filled (suc k) (suc f) n acc some within small = by (eqb (n / 16) 0) refl (digits_onto-filled k f (n / 16) (digit_glyph false (n % 16) ∷ acc))
  where
    glyph : ℕ
    glyph = digit_glyph false (n % 16)

    Filled : ℕ → List ℕ → List ℕ → Type 0
    Filled zeros spelled whole = replicate (zeros - length spelled) 48 ++ spelled ≡ whole

    by : (t : Bool) → eqb (n / 16) 0 ≡ t
        → (0 < k → k ≤ f → n / 16 < 16 ^ k → Filled (k + length (glyph ∷ acc)) (digits_onto f 16 false (n / 16) (glyph ∷ acc)) (hex k (n / 16) ++ glyph ∷ acc))
        → Filled (suc k + length acc) (cond t (glyph ∷ acc) (digits_onto f 16 false (n / 16) (glyph ∷ acc))) ((hex k (n / 16) ++ glyph ∷ []) ++ acc)
    by true last rest =
        let none : n / 16 ≡ 0 = eqb-true (n / 16) 0 last in
        let count : suc k + length acc - suc (length acc) ≡ k = omega arith in
        rw (count, none, hex-zero k, append_assoc) refl
    by false more rest =
        let some_left : 0 < n / 16 = omega (arith, eqb-false (n / 16) 0 more) in
        let count : suc k + length acc ≡ k + length (glyph ∷ acc) = omega arith in
        rw (count, append_assoc) (rest (digits_left k n small some_left) (omega arith) (front_small k n small))

digits_onto-nil : (n : ℕ) → digits_onto 64 16 false n [] ≡ digits 16 false n
unfolding digits
digits_onto-nil n = refl

digits-filled : (k n : ℕ) → 0 < k → k ≤ 64 → n < 16 ^ k → replicate (k - length (digits 16 false n)) 48 ++ digits 16 false n ≡ hex k n
digits-filled k n some within small =
    let count : k + 0 ≡ k = omega arith in
    let filled = digits_onto-filled k 64 n [] some within small in
    subst (λ (whole : List ℕ). replicate (k - length (digits 16 false n)) 48 ++ digits 16 false n ≡ whole) (append-nil (hex k n))
    (subst (λ (j : ℕ). replicate (j - length (digits 16 false n)) 48 ++ digits 16 false n ≡ hex k n ++ []) count
    (subst (λ (spelled : List ℕ). replicate (k + 0 - length spelled) 48 ++ spelled ≡ hex k n ++ []) (digits_onto-nil n) filled))

pub eight_digits : (n : ℕ) → n < 2 ^ 32 → padded_integral (format_spec 32 0 4 8 (2 ^ 64 - 1)) false [] (digits 16 false n) ≡ word_text n
unfolding word_text
eight_digits n small = padded_integral_zeros _ _ refl refl ∙ digits-filled 8 n (omega arith) (omega arith) (omega arith)

pub four_digits : (n : ℕ) → n < 2 ^ 16 → padded_integral (format_spec 32 0 4 4 (2 ^ 64 - 1)) false [] (digits 16 false n) ≡ half_text n
unfolding half_text
four_digits n small = padded_integral_zeros _ _ refl refl ∙ digits-filled 4 n (omega arith) (omega arith) (omega arith)

pub one_digit : (n : ℕ) → n < 16 → digits 16 false n ≡ digit_glyph false n ∷ []
one_digit n small = hex_one_digit false n small
