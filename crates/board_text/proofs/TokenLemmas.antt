-- The first token of a text, and the tokens that are left behind it.
use Rattle.std.proofs.Common.{◌≡◌, ℕ, suc, ◌+◌, ◌-◌, ◌<◌, ◌≤◌, Bool, true, false, not, cond, List, [], ◌∷◌, ◌++◌, append_assoc, length, take, drop, get_or, arith, inl, inr, refl, sym, ap, ◌∙◌}
use Rattle.std.proofs.lemmas.Bool.{cases_lt}
use Rattle.std.proofs.lemmas.List.{append-nil, drop_all, length-take-le, length-drop}
use Rattle.std.proofs.lemmas.List.Sums.{prefix_len-le-length, passes_at_first}
use Rattle.std.proofs.Math.Seq.{drop-cons}
use Rattle.std.specs.List.{position_or_len, slice_split, filter}
use Rattle.board_text.specs.declared.tokens.Token.{Token}
use Rattle.board_text.specs.Tokens.{is_separator, is_no_separator, placed, words_in, IsFirstToken}
use Rattle.board_text.proofs.CutLemmas.{token_step, with_some}
use Rattle.board_text.proofs.NextLemmas.{is_word, kept, begins_word}

-- a separator in front of a text moves its tokens by one
separator_placed : (x from : ℕ) (xs : List ℕ) → is_separator x ≡ true → placed from (slice_split is_separator (x ∷ xs)) ≡ placed (from + 1) (slice_split is_separator xs)
separator_placed x from xs between =
    let cut : slice_split is_separator (x ∷ xs) ≡ [] ∷ slice_split is_separator xs = rw between refl in
    let next : from + 0 + 1 ≡ from + 1 = omega arith in
    ap (placed from) cut ∙ ap (λ (place : ℕ). placed place (slice_split is_separator xs)) next

-- so do all the separators before the first other byte
gap_placed : (xs : List ℕ) (from : ℕ) → placed from (slice_split is_separator xs) ≡ placed (from + position_or_len is_no_separator xs) (slice_split is_separator (drop (position_or_len is_no_separator xs) xs))
gap_placed [] from = refl
gap_placed (x ∷ xs) from =
    let n = position_or_len is_no_separator xs in
    let P : Bool → Type 0 = λ b. is_separator x ≡ b → placed from (slice_split is_separator (x ∷ xs)) ≡ placed (from + cond (not (not b)) (1 + n) 0) (slice_split is_separator (drop (cond (not (not b)) (1 + n) 0) (x ∷ xs))) in
    (elim (is_separator x) as P [
      | true ↦ λ between.
          let next : 1 + n ≡ suc n = omega arith in
          let dropped : drop (1 + n) (x ∷ xs) ≡ drop n xs = rw next refl in
          let place : from + (1 + n) ≡ from + 1 + n = omega arith in
          rw (dropped, place) (separator_placed x from xs between ∙ gap_placed xs (from + 1))
      | false ↦ λ other.
          let place : from + 0 ≡ from = omega arith in
          rw place refl
    ]) refl

-- the bytes before the first separator are the first token, if there are some
word_placed : (xs : List ℕ) (from : ℕ) → 0 < position_or_len is_separator xs → placed from (slice_split is_separator xs) ≡ record { start = from; end = from + position_or_len is_separator xs } ∷ placed (from + position_or_len is_separator xs) (slice_split is_separator (drop (position_or_len is_separator xs) xs))
word_placed xs from some =
    let n = position_or_len is_separator xs in
    let behind : placed (from + n + 1) (slice_split is_separator (drop (n + 1) xs)) ≡ placed (from + n) (slice_split is_separator (drop n xs)) = elim (cases_lt n (length xs)) [
      | inl inside ↦
          let next : n + 1 ≡ suc n = omega arith in
          let back : drop n xs ≡ get_or xs n 0 ∷ drop (n + 1) xs = rw next (drop-cons xs n 0 inside) in
          sym (ap (λ (rest : List ℕ). placed (from + n) (slice_split is_separator rest)) back ∙ separator_placed (get_or xs n 0) (from + n) (drop (n + 1) xs) (passes_at_first is_separator xs 0 inside))
      | inr all ↦ rw (drop_all n xs all, drop_all (n + 1) xs (omega arith)) refl
    ] in
    token_step from xs ∙ with_some from n (placed (from + n + 1) (slice_split is_separator (drop (n + 1) xs))) some ∙ ap (λ (more : List Token). record { start = from; end = from + n } ∷ more) behind

-- the first word of a text is its first token
pub first_token : (xs rest word behind : List ℕ) (n : ℕ) → rest ≡ drop (position_or_len is_no_separator xs) xs → 0 < length rest → n ≡ position_or_len is_separator rest → word ≡ take n rest → behind ≡ drop n rest → IsFirstToken xs word behind
first_token xs rest word behind n cut some size front back = λ from.
    let gap = position_or_len is_no_separator xs in
    let begins : 0 < position_or_len is_separator rest = rw cut (begins_word xs (rw cut at some)) in
    let before : placed from (slice_split is_separator xs) ≡ placed (from + gap) (slice_split is_separator rest) = rw cut (gap_placed xs from) in
    let here : placed (from + gap) (slice_split is_separator rest) ≡ record { start = from + gap; end = from + gap + n } ∷ placed (from + gap + n) (slice_split is_separator behind) = rw (back, size) (word_placed rest (from + gap) begins) in
    let gone : gap ≤ length xs = prefix_len-le-length _ xs in
    let left : length rest ≡ length xs - gap = ap length cut ∙ length-drop gap xs in
    let inside : n ≤ length rest = rw size (prefix_len-le-length _ rest) in
    let long : length word ≡ n = ap length front ∙ length-take-le n rest inside in
    let last : length behind ≡ length rest - n = ap length back ∙ length-drop n rest in
    let begin : from + (length xs - length behind - length word) ≡ from + gap = omega arith in
    let stop : from + (length xs - length behind) ≡ from + gap + n = omega arith in
    rw (begin, stop) (before ∙ here)

-- no token so far, and those of the whole text
pub tokens_begin : (found : List Token) (from : ℕ) (text : List ℕ) → found ≡ [] → found ++ placed (from + (length text - length text)) (slice_split is_separator text) ≡ placed from (slice_split is_separator text)
tokens_begin found from text none =
    let here : from + (length text - length text) ≡ from = omega arith in
    rw (none, here) refl

-- the tokens so far and those that are left are the same tokens, one further
pub token_more : (found whole : List Token) (from first last : ℕ) (text rest word behind : List ℕ) → IsFirstToken rest word behind → length word + length behind ≤ length rest → length rest ≤ length text
    → first ≡ from + (length text - length behind - length word) → last ≡ from + (length text - length behind)
    → found ++ placed (from + (length text - length rest)) (slice_split is_separator rest) ≡ whole
    → (found ++ record { start = first; end = last } ∷ []) ++ placed (from + (length text - length behind)) (slice_split is_separator behind) ≡ whole
token_more found whole from first last text rest word behind token inside within begins ends so_far =
    let begin : from + (length text - length rest) + (length rest - length behind - length word) ≡ first = omega arith in
    let stop : from + (length text - length rest) + (length rest - length behind) ≡ last = omega arith in
    let here : placed (from + (length text - length rest)) (slice_split is_separator rest) ≡ record { start = first; end = last } ∷ placed last (slice_split is_separator behind) = rw (begin, stop) at (token (from + (length text - length rest))) in
    let whole_is : found ++ (record { start = first; end = last } ∷ placed last (slice_split is_separator behind)) ≡ whole = rw here at so_far in
    rw (sym ends, append_assoc) whole_is

-- a text of no words has no tokens
none_placed : (pieces : List (List ℕ)) (from : ℕ) → filter is_word pieces ≡ [] → placed from pieces ≡ []
none_placed [] from none = refl
none_placed ([] ∷ pieces) from none = none_placed pieces (from + 0 + 1) none
none_placed ((x ∷ piece) ∷ pieces) from none =
    let other : (x ∷ piece) ∷ filter is_word pieces ≡ [] = sym (kept (x ∷ piece) pieces (omega arith)) ∙ none in
    absurd cc

-- where no word is left, the tokens so far are all
pub tokens_end : (found whole : List Token) (from : ℕ) (rest : List ℕ) → words_in rest ≡ [] → found ++ placed from (slice_split is_separator rest) ≡ whole → found ≡ whole
tokens_end found whole from rest none so_far =
    let all : found ++ [] ≡ whole = rw (none_placed (slice_split is_separator rest) from none) at so_far in
    sym (append-nil found) ∙ all
