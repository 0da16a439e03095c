-- A number of one digit.
use Rattle.std.proofs.Common.{◌≡◌, ℕ, ◌+◌, ◌*◌, ◌^◌, ◌<◌, true, false, ltb, [], ◌∷◌, Some, None, refl, arith}
use Rattle.std.specs.Char.{digit_value}
use Rattle.std.proofs.lemmas.Bool.Decides.{nat_tests}
use Rattle.trace_reader.specs.lines.Words.{number_of}

pub digit_is : (byte : ℕ) → digit_value byte < 10 → number_of (byte ∷ []) ≡ Some (digit_value byte)
digit_is byte small =
    let digit : ltb (digit_value byte) 10 ≡ true = grind (arith, nat_tests) in
    let sum : 0 * 10 + digit_value byte ≡ digit_value byte = omega arith in
    let fits : ltb (digit_value byte) (2 ^ 32) ≡ true = grind (arith, nat_tests) in
    rw (digit, sum, fits) refl

pub digit_none : (byte : ℕ) → ltb (digit_value byte) 10 ≡ false → number_of (byte ∷ []) ≡ None
digit_none byte other = rw other refl
