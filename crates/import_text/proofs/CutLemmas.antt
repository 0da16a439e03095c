-- The place of the first element that passes a test, or the length where none does.
use Rattle.std.proofs.Common.{◌≡◌, ℕ, ◌≤◌, Bool, cond, ltb, List, length, Option, Some, None, arith}
use Rattle.std.proofs.lemmas.List.Sums.{prefix_len-le-length}
use Rattle.std.specs.Option.{unwrap_or}
use Rattle.std.specs.List.{position_or_len}

pub first_or_length : {A : Type 0} (p : A → Bool) (xs : List A) (r : Option ℕ) → r ≡ cond (ltb (position_or_len p xs) (length xs)) (Some (position_or_len p xs)) None → unwrap_or r (length xs) ≡ position_or_len p xs
first_or_length p xs r is =
    let within : position_or_len p xs ≤ length xs = prefix_len-le-length _ xs in
    rw is (grind arith)
