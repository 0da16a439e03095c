-- The first word of a text, and what is left behind it.
use Rattle.std.proofs.Common.{◌≡◌, ℕ, suc, ◌+◌, ◌<◌, ◌≤◌, Bool, true, false, not, cond, ltb, List, [], ◌∷◌, length, take, drop, get_or, arith, inl, inr, refl, sym, ap, ◌∙◌}
use Rattle.std.proofs.lemmas.Bool.{cases_lt}
use Rattle.std.proofs.lemmas.List.{take_all, drop_all, length-take-le}
use Rattle.std.proofs.lemmas.List.Sums.{prefix_len-le-length, passes_at_first, length-filter, count_by-le-length}
use Rattle.std.proofs.lemmas.List.Splits.{slice_split_first, length-slice_split}
use Rattle.std.proofs.Math.Seq.{drop-cons}
use Rattle.std.specs.List.{position_or_len, slice_split, filter}
use Rattle.board_text.specs.Tokens.{is_separator, is_no_separator, words_in}
use Rattle.board_text.proofs.CutLemmas.{cut_none}

-- a piece that is a word
abbrev pub is_word : List ℕ → Bool
is_word piece = ltb 0 (length piece)

-- a separator in front of a text changes no word
separator_in_front : (x : ℕ) (xs : List ℕ) → is_separator x ≡ true → words_in (x ∷ xs) ≡ words_in xs
separator_in_front x xs between =
    let cut : slice_split is_separator (x ∷ xs) ≡ [] ∷ slice_split is_separator xs = rw between refl in
    ap (filter is_word) cut

-- nor do all the separators before the first other byte
pub gap_dropped : (xs : List ℕ) → words_in (drop (position_or_len is_no_separator xs) xs) ≡ words_in xs
gap_dropped [] = refl
gap_dropped (x ∷ xs) =
    let n = position_or_len is_no_separator xs in
    let P : Bool → Type 0 = λ b. is_separator x ≡ b → words_in (drop (cond (not (not b)) (1 + n) 0) (x ∷ xs)) ≡ words_in (x ∷ xs) in
    (elim (is_separator x) as P [
      | true ↦ λ between.
          let next : 1 + n ≡ suc n = omega arith in
          let dropped : drop (1 + n) (x ∷ xs) ≡ drop n xs = rw next refl in
          ap words_in dropped ∙ gap_dropped xs ∙ sym (separator_in_front x xs between)
      | false ↦ λ other. refl
    ]) refl

pub kept : (piece : List ℕ) (pieces : List (List ℕ)) → 0 < length piece → filter is_word (piece ∷ pieces) ≡ piece ∷ filter is_word pieces
kept piece pieces some = grind arith

-- the bytes before the first separator are the first word, if there are some
pub first_word : (xs : List ℕ) → 0 < position_or_len is_separator xs → words_in xs ≡ take (position_or_len is_separator xs) xs ∷ words_in (drop (position_or_len is_separator xs) xs)
first_word xs some =
    let n = position_or_len is_separator xs in
    let at_most : n ≤ length xs = prefix_len-le-length _ xs in
    elim (cases_lt n (length xs)) [
      | inl inside ↦
          let size = length-take-le n xs (omega arith) in
          let front : words_in xs ≡ take n xs ∷ words_in (drop (n + 1) xs) =
          rw (slice_split_first is_separator xs 0 inside) (kept (take n xs) (slice_split is_separator (drop (n + 1) xs)) (omega (arith, size))) in
          let next : n + 1 ≡ suc n = omega arith in
          let back : drop n xs ≡ get_or xs n 0 ∷ drop (n + 1) xs = rw next (drop-cons xs n 0 inside) in
          let rest : words_in (drop n xs) ≡ words_in (drop (n + 1) xs) = ap words_in back ∙ separator_in_front (get_or xs n 0) (drop (n + 1) xs) (passes_at_first is_separator xs 0 inside) in
          rw rest front
      | inr all ↦
          rw (cut_none is_separator xs all, take_all n xs all, drop_all n xs all) (kept xs [] (omega arith))
    ]

-- behind the gap a text is empty, or begins with a word
pub begins_word : (xs : List ℕ) → 0 < length (drop (position_or_len is_no_separator xs) xs) → 0 < position_or_len is_separator (drop (position_or_len is_no_separator xs) xs)
begins_word [] some = absurd (omega arith)
begins_word (x ∷ xs) given =
    let n = position_or_len is_no_separator xs in
    let P : Bool → Type 0 = λ b. is_separator x ≡ b → 0 < length (drop (cond (not (not b)) (1 + n) 0) (x ∷ xs)) → 0 < position_or_len is_separator (drop (cond (not (not b)) (1 + n) 0) (x ∷ xs)) in
    (elim (is_separator x) as P [
      | true ↦ λ between some.
          let next : 1 + n ≡ suc n = omega arith in
          let dropped : drop (1 + n) (x ∷ xs) ≡ drop n xs = rw next refl in
          rw dropped (begins_word xs (rw dropped at some))
      | false ↦ λ other some. rw other (omega arith)
    ]) refl given

pub next_of : (xs from : List ℕ) (n : ℕ) → from ≡ drop (position_or_len is_no_separator xs) xs → 0 < length from → n ≡ position_or_len is_separator from → words_in xs ≡ take n from ∷ words_in (drop n from)
next_of xs from n behind some size =
    let gap : words_in from ≡ words_in xs = ap words_in behind ∙ gap_dropped xs in
    let begins : 0 < position_or_len is_separator from = rw behind (begins_word xs (rw behind at some)) in
    sym gap ∙ rw size (first_word from begins)

pub none_of : (xs from : List ℕ) → from ≡ drop (position_or_len is_no_separator xs) xs → length from ≡ 0 → words_in xs ≡ []
none_of xs [] behind none = sym (gap_dropped xs) ∙ sym (ap words_in behind)
none_of xs (x ∷ from) behind none = absurd (omega arith)

-- a text has at most one word more than bytes
pub words_few : (xs : List ℕ) → length (words_in xs) ≤ length xs + 1
words_few xs =
    let pieces = length-filter (λ piece. ltb 0 (length piece)) (slice_split is_separator xs) in
    let some = count_by-le-length (λ piece. ltb 0 (length piece)) (slice_split is_separator xs) in
    let cuts = length-slice_split is_separator xs in
    let separators = count_by-le-length is_separator xs in
    omega (arith, pieces, some, cuts, separators)
