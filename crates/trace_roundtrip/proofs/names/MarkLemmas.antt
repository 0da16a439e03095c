-- Words that are split at a dot.
use Rattle.std.proofs.Common.{◌≡◌, ℕ, suc, ◌+◌, ◌^◌, ◌<◌, true, false, eqb, List, [], ◌∷◌, ◌++◌, length, drop, Some, refl, sym, arith}
use Rattle.std.specs.List.{position_or_len}
use Rattle.std.specs.Fmt.{decimal}
use Rattle.std.specs.Str.Parse.{AllDigits}
use Rattle.std.proofs.lemmas.Bool.{or_parts}
use Rattle.std.proofs.lemmas.Bool.Decides.{nat_tests}
use Rattle.std.proofs.lemmas.Fmt.{decimal_is_IsNumeral}
use Rattle.std.proofs.lemmas.List.{take_at}
use Rattle.std.proofs.lemmas.Str.Parse.{digit_from_value}
use Rattle.board_statements.specs.Words.{has_mark, before_mark, behind_mark}
use Rattle.trace_reader.specs.lines.Words.{at_dot}

-- the first dot stands behind a part that has none
first_dot : (part behind : List ℕ) → has_mark 46 part ≡ false → position_or_len (λ byte. eqb byte 46) (part ++ 46 ∷ behind) ≡ length part
first_dot [] behind none = refl
first_dot (byte ∷ part) behind none =
    let parts = or_parts (eqb byte 46) (has_mark 46 part) none in
    let later = first_dot part behind parts.1 in
    rw (parts.0, later) (omega arith)

-- and the whole has a dot
dot_stands : (part behind : List ℕ) → has_mark 46 part ≡ false → has_mark 46 (part ++ 46 ∷ behind) ≡ true
dot_stands [] behind none = refl
dot_stands (byte ∷ part) behind none =
    let parts = or_parts (eqb byte 46) (has_mark 46 part) none in
    rw (parts.0) (dot_stands part behind parts.1)

-- the part stands before the first dot
before_dot : (part behind : List ℕ) → has_mark 46 part ≡ false → before_mark 46 (part ++ 46 ∷ behind) ≡ part
before_dot part behind none = take_at part (46 ∷ behind) _ (sym (first_dot part behind none))

-- behind a part and the dot stands what follows
behind_at : (part behind : List ℕ) (place : ℕ) → place ≡ length part → drop (place + 1) (part ++ 46 ∷ behind) ≡ behind
behind_at [] behind place is = rw is refl
behind_at (byte ∷ part) behind place is =
    let next : place + 1 ≡ suc (length part + 1) = omega arith in
    rw next (behind_at part behind (length part) refl)

-- so it stands behind the first dot
behind_dot : (part behind : List ℕ) → has_mark 46 part ≡ false → behind_mark 46 (part ++ 46 ∷ behind) ≡ behind
behind_dot part behind none = behind_at part behind _ (first_dot part behind none)

-- a word is split behind a part that has no dot
pub split_at_dot : (part behind : List ℕ) → has_mark 46 part ≡ false → at_dot (part ++ 46 ∷ behind) ≡ Some (part, behind)
split_at_dot part behind none =
    rw (dot_stands part behind none, before_dot part behind none, behind_dot part behind none) refl

-- digits are no dots
digits_have_none : (word : List ℕ) → AllDigits 10 word → has_mark 46 word ≡ false
digits_have_none [] all = refl
digits_have_none (byte ∷ word) all =
    let range = digit_from_value byte all.0 in
    let here : eqb byte 46 ≡ false = grind (arith, nat_tests, range) in
    rw here (digits_have_none word all.1)

-- a number has no dot
pub number_has_no_dot : (n : ℕ) → n < 2 ^ 32 → has_mark 46 (decimal n) ≡ false
number_has_no_dot n small = digits_have_none (decimal n) (decimal_is_IsNumeral n (omega arith)).0.1
