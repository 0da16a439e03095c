-- The digits of numbers as they are printed: each is one, there are so many, and their value.
use Rattle.std.proofs.Common.{◌≡◌, ℕ, zero, suc, ◌*◌, ◌/◌, ◌%◌, ◌^◌, ◌<◌, true, false, List, [], ◌∷◌, length, arith, inl, inr, refl, ◌∙◌}
use Rattle.std.proofs.lemmas.Bool.{cases_lt, lt-ltb}
use Rattle.std.proofs.lemmas.Bool.Decides.{nat_tests}
use Rattle.std.proofs.lemmas.List.{length-append}
use Rattle.std.proofs.lemmas.List.Folds.{list_all-append}
use Rattle.std.proofs.lemmas.Int.Digits.{digits_value_push}
use Rattle.std.specs.List.{list_all}
use Rattle.std.specs.Char.{digit_value, is_digit}
use Rattle.std.specs.Fmt.{digit_glyph}
use Rattle.std.specs.Str.Parse.{digits_value, AllDigits}
use Rattle.board_printer.specs.Numbers.{hex}

-- a digit that is printed has its value
pub glyph_value : (d : ℕ) → d < 16 → digit_value (digit_glyph false d) ≡ d
glyph_value d below =
    elim (cases_lt d 10) [
      | inl small ↦ grind (arith, nat_tests)
      | inr large ↦ grind (arith, nat_tests)
    ]

pub glyph_is_digit : (d : ℕ) → d < 16 → is_digit (digit_glyph false d) 16 ≡ true
glyph_is_digit d below = rw (glyph_value d below) (lt-ltb d 16 below)

-- the digits of a number in base 16: each is one, so many, and of its value
pub hex_digits : (k n : ℕ) → list_all (λ byte. is_digit byte 16) (hex k n) ≡ true
hex_digits zero n = refl
hex_digits (suc k) n =
    let last = glyph_is_digit (n % 16) (omega arith) in
    list_all-append (λ byte. is_digit byte 16) (hex k (n / 16)) _ ∙ rw (hex_digits k (n / 16), last) refl

pub hex_length : (k n : ℕ) → length (hex k n) ≡ k
hex_length zero n = refl
hex_length (suc k) n =
    let before = hex_length k (n / 16) in
    let sum = length-append (hex k (n / 16)) (digit_glyph false (n % 16) ∷ []) in
    omega (arith, before, sum)

pub hex_value : (k n : ℕ) → n < 16 ^ k → digits_value 16 (hex k n) ≡ n
hex_value zero n below = omega arith
hex_value (suc k) n below =
    let power : 16 ^ suc k ≡ 16 * 16 ^ k = grind arith in
    let before = hex_value k (n / 16) (omega (arith, power)) in
    let last = glyph_value (n % 16) (omega arith) in
    digits_value_push 16 (hex k (n / 16)) (digit_glyph false (n % 16)) ∙ rw (before, last) (omega arith)

-- bytes that are all digits of a base
pub from_all_digits : (radix : ℕ) (word : List ℕ) → AllDigits radix word → list_all (λ byte. is_digit byte radix) word ≡ true
from_all_digits radix [] all = refl
from_all_digits radix (byte ∷ word) all = rw (lt-ltb _ _ all.0, from_all_digits radix word all.1) refl
