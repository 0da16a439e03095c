-- No two numbers of at most three digits have one code, and a line gives a value to the signal with its code alone.
use Rattle.std.proofs.Common.{◌≡◌, ℕ, zero, suc, ◌+◌, ◌*◌, ◌/◌, ◌%◌, ◌^◌, ◌<◌, Bool, true, false, cond, nat_lt, List, [], refl, ap, arith, ltb-true, ltb-false, eqb-true}
use Rattle.std.specs.Str.{bytes_eq}
use Rattle.std.proofs.lemmas.Bool.{false_from_ne_true}
use Rattle.std.proofs.lemmas.Slice.Eq.{bytes_eq-Decides}
use Rattle.run_waves.specs.Shown.{Shown, Text, Level, Number, Nothing}
use Rattle.run_waves.specs.Dump.{code_within, code_of, value_line, same_shown, time_line}
use Rattle.run_waves.specs.Told.{gives}

power_more : (n : ℕ) → 94 ^ (suc n) ≡ 94 * 94 ^ n
power_more n = grind arith

-- the digits behind the first
rest_apart : (n j k : ℕ) (a b : Bool) → nat_lt j 94 ≡ a → nat_lt k 94 ≡ b → j % 94 ≡ k % 94
    → ((j / 94 < 94 ^ n) → (k / 94 < 94 ^ n) → code_within n (j / 94) ≡ code_within n (k / 94) → j / 94 ≡ k / 94)
    → j < 94 ^ (suc n) → k < 94 ^ (suc n) → cond a [] (code_within n (j / 94)) ≡ cond b [] (code_within n (k / 94)) → j ≡ k
rest_apart n j k true true first second same later within also e = omega (arith, ltb-true j 94 first, ltb-true k 94 second)
rest_apart zero j k true false first second same later within also e = absurd (omega (arith, power_more zero, ltb-false k 94 second))
rest_apart (suc n) j k true false first second same later within also e = cc
rest_apart zero j k false true first second same later within also e = absurd (omega (arith, power_more zero, ltb-false j 94 first))
rest_apart (suc n) j k false true first second same later within also e = cc
rest_apart n j k false false first second same later within also e =
    let more : 94 ^ (suc n) ≡ 94 * 94 ^ n = power_more n in
    let left : j / 94 < 94 ^ n = omega arith in
    let right : k / 94 < 94 ^ n = omega arith in
    let rest : j / 94 ≡ k / 94 = later left right e in
    omega arith

digits_apart : (n j k : ℕ) → j < 94 ^ n → k < 94 ^ n → code_within n j ≡ code_within n k → j ≡ k
digits_apart zero j k within also e = omega arith
digits_apart (suc n) j k within also e =
    let first : 33 + j % 94 ≡ 33 + k % 94 = cc in
    let rest : cond (nat_lt j 94) [] (code_within n (j / 94)) ≡ cond (nat_lt k 94) [] (code_within n (k / 94)) = cc in
    rest_apart n j k (nat_lt j 94) (nat_lt k 94) refl refl (omega arith) (digits_apart n (j / 94) (k / 94)) within also rest

pub codes_differ : (j k : ℕ) → j < 94 ^ 3 → k < 94 ^ 3 → code_of j ≡ code_of k → j ≡ k
codes_differ j k within also e = digits_apart 3 j k within also e

-- Which signal a line is of.

same_bytes : (a b : List ℕ) → bytes_eq a b ≡ true → a ≡ b
same_bytes a b e = (bytes_eq-Decides a b).0 e

-- its own
pub gives_own : (k : ℕ) (what : Shown) → gives (code_of k) (value_line k what) ≡ true
gives_own k (Text text) = (bytes_eq-Decides (code_of k) (code_of k)).1 refl
gives_own k (Level true) = (bytes_eq-Decides (code_of k) (code_of k)).1 refl
gives_own k (Level false) = (bytes_eq-Decides (code_of k) (code_of k)).1 refl
gives_own k (Number n) = (bytes_eq-Decides (code_of k) (code_of k)).1 refl
gives_own k Nothing = (bytes_eq-Decides (code_of k) (code_of k)).1 refl

-- and of no other
gives_code : (k j : ℕ) (what : Shown) → gives (code_of k) (value_line j what) ≡ true → code_of j ≡ code_of k
gives_code k j (Text text) e = same_bytes (code_of j) (code_of k) e
gives_code k j (Level true) e = same_bytes (code_of j) (code_of k) e
gives_code k j (Level false) e = same_bytes (code_of j) (code_of k) e
gives_code k j (Number n) e = same_bytes (code_of j) (code_of k) e
gives_code k j Nothing e = same_bytes (code_of j) (code_of k) e

pub gives_other : (k j : ℕ) (what : Shown) → k < 94 ^ 3 → j < 94 ^ 3 → (j ≡ k → ⊥) → gives (code_of k) (value_line j what) ≡ false
gives_other k j what within also differ =
    false_from_ne_true (gives (code_of k) (value_line j what)) (λ e. differ (codes_differ j k also within (gives_code k j what e)))

-- a moment is of none
pub gives_time : (code : List ℕ) (n : ℕ) → gives code (time_line n) ≡ false
gives_time code n = refl

-- What is shown alike is the same.

same_levels : (a b : Bool) → same_shown (Level a) (Level b) ≡ true → a ≡ b
same_levels true true e = refl
same_levels true false e = cc
same_levels false true e = cc
same_levels false false e = refl

pub shown_alike : (a b : Shown) → same_shown a b ≡ true → a ≡ b
shown_alike (Text a) (Text b) e = ap Text (same_bytes a b e)
shown_alike (Text a) (Level b) e = cc
shown_alike (Text a) (Number b) e = cc
shown_alike (Text a) Nothing e = cc
shown_alike (Level a) (Text b) e = cc
shown_alike (Level a) (Level b) e = ap Level (same_levels a b e)
shown_alike (Level a) (Number b) e = cc
shown_alike (Level a) Nothing e = cc
shown_alike (Number a) (Text b) e = cc
shown_alike (Number a) (Level b) e = cc
shown_alike (Number a) (Number b) e = ap Number (eqb-true a b e)
shown_alike (Number a) Nothing e = cc
shown_alike Nothing (Text b) e = cc
shown_alike Nothing (Level b) e = cc
shown_alike Nothing (Number b) e = cc
shown_alike Nothing Nothing e = refl
