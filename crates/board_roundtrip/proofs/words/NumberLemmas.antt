-- Numbers that were printed: their digits, and what is read.
use Rattle.std.proofs.Common.{◌≡◌, ℕ, ◌/◌, ◌%◌, ◌^◌, ◌<◌, true, false, ltb, List, [], ◌∷◌, length, Ok, zero, suc, refl, arith}
use Rattle.std.specs.List.{list_all}
use Rattle.std.specs.Char.{digit_value}
use Rattle.std.specs.Fmt.{decimal, digit_glyph}
use Rattle.std.specs.Str.Parse.{AllDigits}
use Rattle.std.proofs.lemmas.Bool.Decides.{nat_tests}
use Rattle.std.proofs.lemmas.List.Folds.{list_all-append}
use Rattle.std.proofs.lemmas.Str.Parse.{digit_from_value}
use Rattle.std.proofs.lemmas.Fmt.{decimal_is_IsNumeral, length-decimal-le}
use Rattle.board_text.specs.Numbers.{hex_answer, decimal_answer}
use Rattle.board_printer.specs.Numbers.{hex, word_text, half_text}
use Rattle.board_roundtrip.proofs.words.DigitLemmas.{hex_digits, hex_length, hex_value, from_all_digits}
use Rattle.board_roundtrip.specs.words.Printed.{is_word_byte, is_word}

digit_is_word : (byte : ℕ) → digit_value byte < 10 → is_word_byte byte ≡ true
digit_is_word byte small = let range = digit_from_value byte small in grind (arith, nat_tests, range)

digits_are_words : (bytes : List ℕ) → AllDigits 10 bytes → list_all is_word_byte bytes ≡ true
digits_are_words [] all = refl
digits_are_words (byte ∷ bytes) all =
    let later = digits_are_words bytes all.1 in
    let word = digit_is_word byte all.0 in
    cc

glyph_is_word : (d : ℕ) → d < 16 → is_word_byte (digit_glyph false d) ≡ true
glyph_is_word d small = grind (arith, nat_tests)

-- the bytes of a number in base 16 are those of a word
pub hex_words : (k n : ℕ) → list_all is_word_byte (hex k n) ≡ true
hex_words zero n = refl
hex_words (suc k) n =
    let word = glyph_is_word (n % 16) (omega arith) in
    let front = hex_words k (n / 16) in
    let words = list_all-append is_word_byte (hex k (n / 16)) (digit_glyph false (n % 16) ∷ []) in
    cc

pub decimal_again : (n : ℕ) → n < 2 ^ 32 → decimal_answer (decimal n) ≡ Ok n
decimal_again n small =
    let numeral = decimal_is_IsNumeral n (omega arith) in
    let digits = from_all_digits 10 (decimal n) numeral.0.1 in
    let value = numeral.1 in
    let some : ltb 0 (length (decimal n)) ≡ true = grind (arith, nat_tests, numeral.0.0) in
    let short : ltb 10 (length (decimal n)) ≡ false = grind (arith, nat_tests, length-decimal-le 10 n (omega arith) (omega arith) (omega arith)) in
    let within : ltb n (2 ^ 32) ≡ true = grind (arith, nat_tests) in
    rw (some, digits, short, value, within) refl

pub decimal_word : (n : ℕ) → n < 2 ^ 32 → is_word (decimal n) ≡ true
decimal_word n small =
    let numeral = decimal_is_IsNumeral n (omega arith) in
    let bytes = digits_are_words (decimal n) numeral.0.1 in
    let some : ltb 0 (length (decimal n)) ≡ true = grind (arith, nat_tests, numeral.0.0) in
    rw (some, bytes) refl

hex_again : (k n : ℕ) → n < 16 ^ k → 0 < k → hex_answer (hex k n) k ≡ Ok n
hex_again k n small some =
    let digits = hex_digits k n in
    let value = hex_value k n small in
    let long : ltb 0 (length (hex k n)) ≡ true = grind (arith, nat_tests, hex_length k n) in
    let short : ltb k (length (hex k n)) ≡ false = grind (arith, nat_tests, hex_length k n) in
    rw (long, digits, short, value) refl

hex_word : (k n : ℕ) → 0 < k → is_word (hex k n) ≡ true
hex_word k n some =
    let bytes = hex_words k n in
    let long : ltb 0 (length (hex k n)) ≡ true = grind (arith, nat_tests, hex_length k n) in
    rw (long, bytes) refl

pub eight_again : (n : ℕ) → n < 2 ^ 32 → hex_answer (word_text n) 8 ≡ Ok n
unfolding word_text
eight_again n small = hex_again 8 n small (omega arith)

pub four_again : (n : ℕ) → n < 2 ^ 16 → hex_answer (half_text n) 4 ≡ Ok n
unfolding half_text
four_again n small = hex_again 4 n small (omega arith)

pub eight_word : (n : ℕ) → is_word (word_text n) ≡ true
unfolding word_text
eight_word n = hex_word 8 n (omega arith)

pub four_word : (n : ℕ) → is_word (half_text n) ≡ true
unfolding half_text
four_word n = hex_word 4 n (omega arith)
