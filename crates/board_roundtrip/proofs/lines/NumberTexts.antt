-- Numbers as they are printed are read as the same numbers.
use Rattle.std.proofs.Common.{◌≡◌, ℕ, ◌^◌, ◌<◌, ◌≤◌, true, false, ltb, leb, List, length, Result, Ok, arith, refl}
use Rattle.std.proofs.lemmas.Bool.{lt-ltb, le-ltb}
use Rattle.std.proofs.lemmas.Bool.Decides.{nat_tests}
use Rattle.std.proofs.lemmas.Fmt.{decimal_is_IsNumeral, length-decimal-le}
use Rattle.std.specs.List.{list_all}
use Rattle.std.specs.Char.{is_digit}
use Rattle.std.specs.Fmt.{decimal}
use Rattle.std.specs.Str.Parse.{digits_value}
use Rattle.board_text.specs.Numbers.{is_numeral}
use Rattle.board_printer.specs.Numbers.{hex}
use Rattle.text_faults.specs.declared.board_line.LineFault.{LineFault}
use Rattle.board_statements.specs.Words.{hex_of, decimal_of}
use Rattle.board_roundtrip.proofs.words.Laws.{hex_digits, hex_length, hex_value, from_all_digits}

abbrev pub number : ℕ → Result ℕ LineFault
number n = Ok n

numeral : (radix : ℕ) (word : List ℕ) → 0 < length word → list_all (λ byte. is_digit byte radix) word ≡ true → is_numeral radix word ≡ true
numeral radix word some all = rw (lt-ltb 0 (length word) some, all) refl

pub hex_is_read : (digits n : ℕ) → 0 < digits → n < 16 ^ digits → hex_of digits (hex digits n) ≡ number n
unfolding hex_of
hex_is_read digits n some below =
    let long = hex_length digits n in
    let all = numeral 16 (hex digits n) (omega (arith, long)) (hex_digits digits n) in
    let short : ltb digits (length (hex digits n)) ≡ false = le-ltb _ _ (omega (arith, long)) in
    rw (all, short, hex_value digits n below) refl

pub decimal_digits : (n : ℕ) → n < 2 ^ 32 → list_all (λ byte. is_digit byte 10) (decimal n) ≡ true
decimal_digits n below = from_all_digits 10 (decimal n) (decimal_is_IsNumeral n (omega arith)).0.1

pub decimal_some : (n : ℕ) → n < 2 ^ 32 → 0 < length (decimal n)
decimal_some n below = (decimal_is_IsNumeral n (omega arith)).0.0

pub decimal_is_read : (low high n : ℕ) → low ≤ n → n ≤ high → high < 2 ^ 32 → decimal_of low high (decimal n) ≡ number n
unfolding decimal_of
decimal_is_read low high n least most below =
    let read = decimal_is_IsNumeral n (omega arith) in
    let all = numeral 10 (decimal n) read.0.0 (decimal_digits n (omega arith)) in
    let few = length-decimal-le 10 n (omega arith) (omega arith) (omega arith) in
    let short : ltb 10 (length (decimal n)) ≡ false = le-ltb _ _ few in
    let value : digits_value 10 (decimal n) ≡ n = read.1 in
    let fits : ltb n (2 ^ 32) ≡ true = lt-ltb _ _ (omega arith) in
    let from : leb low n ≡ true = grind (arith, nat_tests) in
    let to : leb n high ≡ true = grind (arith, nat_tests) in
    rw (all, short, value, fits, from, to) refl
