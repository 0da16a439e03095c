-- Numbers are read as they are printed.
use Rattle.std.proofs.Common.{◌≡◌, ℕ, ◌^◌, ◌<◌, ◌≤◌, true, false, eqb, List, [], ◌∷◌, length, get_or, Some, refl, ap, arith, inl, inr}
use Rattle.std.specs.Fmt.{decimal}
use Rattle.std.proofs.lemmas.Bool.{cases_lt}
use Rattle.std.proofs.lemmas.Bool.Decides.{nat_tests}
use Rattle.std.proofs.lemmas.Fmt.{decimal_digit, decimal_nonempty, first_decimal, length-decimal-le}
use Rattle.trace_reader.specs.lines.Words.{answered, has_no_zero_before, number_of}
use Rattle.board_roundtrip.proofs.words.Laws.{decimal_again}

-- a word with a first digit above 0 has no zero before another digit
no_zero_first : (word : List ℕ) → 0 < length word → 48 < get_or word 0 0 → has_no_zero_before word ≡ true
no_zero_first [] some first = absurd (omega arith)
no_zero_first (byte ∷ []) some first = refl
no_zero_first (byte ∷ next ∷ rest) some first =
    let differs : eqb byte 48 ≡ false = grind (arith, nat_tests) in
    rw differs refl

-- no number is printed with a zero before another digit
no_zero_before : (n : ℕ) → n < 2 ^ 32 → has_no_zero_before (decimal n) ≡ true
no_zero_before n small =
    elim (cases_lt 0 n) [
      | inl some ↦ no_zero_first (decimal n) (decimal_nonempty n (omega arith)) (first_decimal n some (omega arith))
      | inr none ↦
          let zero : n ≡ 0 = omega arith in
          rw (zero, decimal_digit 0 (omega arith)) refl
    ]

-- a number is read as it is printed
pub number_is_read : (n : ℕ) → n < 2 ^ 32 → number_of (decimal n) ≡ Some n
number_is_read n small =
    let same = ap answered (decimal_again n small) in
    rw (no_zero_before n small) same

-- it is printed in ten digits or fewer
pub number_is_short : (n : ℕ) → n < 2 ^ 32 → length (decimal n) ≤ 10
number_is_short n small = length-decimal-le 10 n (omega arith) (omega arith) (omega arith)
