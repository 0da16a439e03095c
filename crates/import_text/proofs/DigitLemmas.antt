-- The value of decimal digits: what it is so far, and how large it can be.
use Rattle.std.proofs.Common.{◌≡◌, ℕ, ◌+◌, ◌*◌, ◌^◌, ◌<◌, ◌≤◌, true, List, [], ◌∷◌, take, get_or, length, arith}
use Rattle.std.proofs.Math.Nat.{pow-le-pow_right}
use Rattle.std.proofs.lemmas.Int.Digits.{digits_value_more, digits_value-lt}
use Rattle.std.proofs.lemmas.Str.Parse.{digits_value-take-le}
use Rattle.std.specs.List.{list_all}
use Rattle.std.specs.Char.{digit_value, is_digit}
use Rattle.std.specs.Str.Parse.{AllDigits, digits_value}

-- one digit more
pub digits_step : (radix value digit : ℕ) (token : List ℕ) (i : ℕ) → i < length token → value ≡ digits_value radix (take i token) → digit ≡ digit_value (get_or token i 0) → value * radix + digit ≡ digits_value radix (take (i + 1) token)
digits_step radix value digit token i inside so_far read = rw (digits_value_more radix token i inside, ← so_far, read)

-- no more than the whole
pub digits_within : (radix value digit : ℕ) (token : List ℕ) (i : ℕ) → 1 ≤ radix → i < length token → value ≡ digits_value radix (take i token) → digit ≡ digit_value (get_or token i 0) → value * radix + digit ≤ digits_value radix token
digits_within radix value digit token i base inside so_far read =
    rw (digits_step radix value digit token i inside so_far read) (digits_value-take-le radix token (i + 1) base)

all_digits : (radix : ℕ) (token : List ℕ) → list_all (λ byte. is_digit byte radix) token ≡ true → AllDigits radix token
all_digits radix [] all = tt
all_digits radix (c ∷ cs) all = (grind arith, all_digits radix cs (grind arith))

-- so many digits write a number below that power of the base
digits_below : (radix most : ℕ) (token : List ℕ) → 0 < radix → list_all (λ byte. is_digit byte radix) token ≡ true → length token ≤ most → digits_value radix token < radix ^ most
digits_below radix most token base all short =
    let below = digits_value-lt radix token (all_digits radix token all) in
    let power : radix ^ length token ≤ radix ^ most = pow-le-pow_right base short in
    omega arith

pub decimal_fits : (token : List ℕ) → list_all (λ byte. is_digit byte 10) token ≡ true → length token ≤ 10 → digits_value 10 token < 10_000_000_000
decimal_fits token all short = digits_below 10 10 token (omega arith) all short
