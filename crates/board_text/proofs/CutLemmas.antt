-- A text that is cut: its first line and its first token, and what is left behind them.
use Rattle.std.proofs.Common.{◌≡◌, ℕ, ◌+◌, ◌<◌, ◌≤◌, Bool, cond, ltb, List, [], ◌∷◌, length, take, drop, Option, Some, None, arith, inl, inr, refl}
use Rattle.std.proofs.lemmas.Bool.{cases_lt}
use Rattle.std.proofs.lemmas.List.{take_all, drop_all, length-take-le, length-drop, drop-drop}
use Rattle.std.proofs.lemmas.List.Sums.{prefix_len-le-length, fails_before_first}
use Rattle.std.proofs.lemmas.List.Splits.{slice_split_none, slice_split_first, length-slice_split}
use Rattle.std.specs.Option.{unwrap_or}
use Rattle.std.specs.List.{position_or_len, slice_split}
use Rattle.board_text.specs.declared.tokens.Token.{Token}
use Rattle.board_text.specs.Lines.{is_newline, without_empty_end, lines_of}
use Rattle.board_text.specs.Tokens.{is_separator, with_token, placed}

pub first_or_length : (p : ℕ → Bool) (xs : List ℕ) (r : Option ℕ) → r ≡ cond (ltb (position_or_len p xs) (length xs)) (Some (position_or_len p xs)) None → unwrap_or r (length xs) ≡ position_or_len p xs
first_or_length p xs r is =
    let within : position_or_len p xs ≤ length xs = prefix_len-le-length _ xs in
    rw is (grind arith)

pub cut_none : (p : ℕ → Bool) (xs : List ℕ) → length xs ≤ position_or_len p xs → slice_split p xs ≡ xs ∷ []
cut_none p xs all = slice_split_none p xs (λ k d inside. fails_before_first p xs k d (omega arith))

pub onto_line : (piece : List ℕ) (pieces : List (List ℕ)) → 0 < length pieces → without_empty_end (piece ∷ pieces) ≡ piece ∷ without_empty_end pieces
onto_line piece [] some = absurd (omega arith)
onto_line piece (next ∷ pieces) some = refl

one_line : (xs : List ℕ) → 0 < length xs → without_empty_end (xs ∷ []) ≡ xs ∷ []
one_line [] some = absurd (omega arith)
one_line (x ∷ xs) some = grind arith

-- a text that is not empty is its first line and the lines behind that one's newline
pub line_step : (xs : List ℕ) → 0 < length xs → lines_of xs ≡ take (position_or_len is_newline xs) xs ∷ lines_of (drop (position_or_len is_newline xs + 1) xs)
line_step xs some =
    elim (cases_lt (position_or_len is_newline xs) (length xs)) [
      | inl inside ↦
          let more = length-slice_split is_newline (drop (position_or_len is_newline xs + 1) xs) in
          rw (slice_split_first is_newline xs 0 inside) (onto_line (take (position_or_len is_newline xs) xs) (slice_split is_newline (drop (position_or_len is_newline xs + 1) xs)) (omega (arith, more)))
      | inr all ↦
          rw (cut_none is_newline xs all, take_all _ xs all, drop_all (position_or_len is_newline xs + 1) xs (omega arith)) (one_line xs some)
    ]

-- the first token, and the tokens behind the separator that follows it
pub token_step : (from : ℕ) (xs : List ℕ) → placed from (slice_split is_separator xs) ≡ with_token from (position_or_len is_separator xs) (placed (from + position_or_len is_separator xs + 1) (slice_split is_separator (drop (position_or_len is_separator xs + 1) xs)))
token_step from xs =
    elim (cases_lt (position_or_len is_separator xs) (length xs)) [
      | inl inside ↦
          rw (slice_split_first is_separator xs 0 inside, length-take-le (position_or_len is_separator xs) xs (omega arith)) refl
      | inr all ↦
          let within : position_or_len is_separator xs ≤ length xs = prefix_len-le-length _ xs in
          let same : position_or_len is_separator xs ≡ length xs = omega arith in
          rw (cut_none is_separator xs all, drop_all (position_or_len is_separator xs + 1) xs (omega arith), same) refl
    ]

-- the same of what is left of a text from a place on
pub next_step : (bytes : List ℕ) (at n : ℕ) → at < length bytes → n ≡ position_or_len is_newline (drop at bytes) → lines_of (drop at bytes) ≡ take n (drop at bytes) ∷ lines_of (drop (at + n + 1) bytes)
next_step bytes at n inside is =
    let rest = length-drop at bytes in
    let behind : at + n + 1 ≡ at + (n + 1) = omega arith in
    rw (behind, ← drop-drop (n + 1) at bytes, is) (line_step (drop at bytes) (omega arith))

pub with_some : (from n : ℕ) (more : List Token) → 0 < n → with_token from n more ≡ record { start = from; end = from + n } ∷ more
with_some from n more some = grind arith
