-- The pieces of a line that is cut are slices of it, so that its tokens stand for its words.
use Rattle.std.proofs.Common.{◌≡◌, ℕ, suc, ◌+◌, ◌-◌, ◌<◌, ◌≤◌, Bool, true, false, cond, nat_lt, List, [], ◌∷◌, ◌++◌, map, length, take, drop, arith, refl, sym, ap, subst, ◌∙◌, inl, inr, Result, Ok, Err, IfOk, ◌==◌}
use Rattle.std.proofs.lemmas.Bool.{cases_lt}
use Rattle.std.proofs.lemmas.List.{drop-drop, length-drop, take-append-le, take-append-drop, drop-append-le, length-append}
use Rattle.std.proofs.lemmas.List.Elements.{All-nil, All-cons}
use Rattle.std.proofs.lemmas.List.Splits.{length-slice_split}
use Rattle.std.specs.List.{slice_split, onto_first, slice_range, filter, position_or_len, All}
use Rattle.board_text.specs.declared.tokens.Token.{Token}
use Rattle.board_text.specs.Tokens.{is_separator, is_comment, uncommented, with_token, placed, tokens_of, words_of, slice_at, IsWithin}
use Rattle.board_text.proofs.CutLemmas.{with_some}

-- the pieces stand in the text, one byte between each two
abbrev pub Tile : List (List ℕ) → List ℕ → Type 0
Tile [] xs = Unit {0}
Tile (piece ∷ pieces) xs = (take (length piece) xs ≡ piece) × (length piece ≤ length xs) × Tile pieces (drop (length piece + 1) xs)

tile_onto : (x : ℕ) (pieces : List (List ℕ)) (xs : List ℕ) → 0 < length pieces → Tile pieces xs → Tile (onto_first x pieces) (x ∷ xs)
tile_onto x [] xs some tile = absurd (omega arith)
tile_onto x (piece ∷ pieces) xs some tile =
    let next : length (x ∷ piece) + 1 ≡ suc (length piece + 1) = omega arith in
    (ap (λ (l : List ℕ). x ∷ l) tile.0, omega (arith, tile.1), rw next tile.2)

pub tile_split : (p : ℕ → Bool) (xs : List ℕ) → Tile (slice_split p xs) xs
tile_split p [] = (refl, omega arith, tt)
tile_split p (x ∷ xs) =
    let some = length-slice_split p xs in
    let Q : Bool → Type 0 = λ b. Tile (cond b ([] ∷ slice_split p xs) (onto_first x (slice_split p xs))) (x ∷ xs) in
    elim (p x) as Q [
      | true ↦ (refl, omega arith, tile_split p xs)
      | false ↦ tile_onto x (slice_split p xs) xs (omega (arith, some)) (tile_split p xs)
    ]

tile_empty : (pieces : List (List ℕ)) (xs ys : List ℕ) → length xs ≡ 0 → Tile pieces xs → Tile pieces ys
tile_empty [] xs ys none tile = tt
tile_empty ([] ∷ pieces) xs ys none tile =
    let left = length-drop 1 xs in
    (refl, omega arith, tile_empty pieces (drop 1 xs) (drop 1 ys) (omega (arith, left)) tile.2)
tile_empty ((x ∷ piece) ∷ pieces) xs ys none tile = absurd (let within = tile.1 in omega arith)

-- and they stand in each text that goes on so
pub tile_longer : (pieces : List (List ℕ)) (xs rest : List ℕ) → Tile pieces xs → Tile pieces (xs ++ rest)
tile_longer [] xs rest tile = tt
tile_longer (piece ∷ pieces) xs rest tile =
    let sum = length-append xs rest in
    let left = length-drop (length piece + 1) xs in
    let behind : Tile pieces (drop (length piece + 1) (xs ++ rest)) = elim (cases_lt (length piece) (length xs)) [
      | inl more ↦ rw (drop-append-le (length piece + 1) xs rest (omega arith)) (tile_longer pieces (drop (length piece + 1) xs) rest tile.2)
      | inr none ↦ tile_empty pieces (drop (length piece + 1) xs) (drop (length piece + 1) (xs ++ rest)) (omega (arith, left)) tile.2
    ] in
    (take-append-le (length piece) xs rest tile.1 ∙ tile.0, omega (arith, sum, tile.1), behind)

one_more : (f : Token → List ℕ) (from : ℕ) (piece : List ℕ) (more : List Token) (words : List (List ℕ)) → f (record { start = from; end = from + length piece }) ≡ piece → map f more ≡ words → map f (with_token from (length piece) more) ≡ cond (nat_lt 0 (length piece)) (piece ∷ words) words
one_more f from [] more words this others = others
one_more f from (x ∷ piece) more words this others =
    let token : with_token from (length (x ∷ piece)) more ≡ record { start = from; end = from + length (x ∷ piece) } ∷ more = with_some from (length (x ∷ piece)) more (omega arith) in
    rw (token, this, others) (grind arith)

pub texts_of_placed : (f : Token → List ℕ) (pieces : List (List ℕ)) (whole : List ℕ) (from at : ℕ) → ((begin size : ℕ) → f (record { start = from + begin; end = from + begin + size }) ≡ take size (drop begin whole)) → Tile pieces (drop at whole) → map f (placed (from + at) pieces) ≡ filter (λ piece. nat_lt 0 (length piece)) pieces
texts_of_placed f [] whole from at text tile = refl
texts_of_placed f (piece ∷ pieces) whole from at text tile =
    let behind : from + at + length piece + 1 ≡ from + (at + (length piece + 1)) = omega arith in
    let rest : Tile pieces (drop (at + (length piece + 1)) whole) = rw (← drop-drop (length piece + 1) at whole) tile.2 in
    let others : map f (placed (from + at + length piece + 1) pieces) ≡ filter (λ piece. nat_lt 0 (length piece)) pieces = rw behind (texts_of_placed f pieces whole from (at + (length piece + 1)) text rest) in
    one_more f (from + at) piece _ _ (text at (length piece) ∙ tile.0) others

pub tile_line : (line : List ℕ) → Tile (slice_split is_separator (uncommented line)) line
tile_line line =
    let size = position_or_len is_comment line in
    let pieces = slice_split is_separator (take size line) in
    subst (λ (whole : List ℕ). Tile pieces whole) (take-append-drop size line) (tile_longer pieces (take size line) (drop size line) (tile_split is_separator (take size line)))

-- the slices of the line at its tokens are its words
pub texts_are_words : (from : ℕ) (line : List ℕ) → map (slice_at from line) (tokens_of from line) ≡ words_of line
texts_are_words from line =
    let begin : from + 0 ≡ from = omega arith in
    let text : (at size : ℕ) → slice_range line (from + at - from) (from + at + size - from) ≡ take size (drop at line) = λ at size.
    let place : from + at - from ≡ at = omega arith in
    let long : from + at + size - from - (from + at - from) ≡ size = omega arith in
    rw (long, place) refl in
    let texts = texts_of_placed (slice_at from line) (slice_split is_separator (uncommented line)) line from 0 text (tile_line line) in
    rw begin at texts

within_placed : (pieces : List (List ℕ)) (whole : List ℕ) (from at : ℕ) → Tile pieces (drop at whole) → All (IsWithin from (from + length whole)) (placed (from + at) pieces)
within_placed [] whole from at tile = All-nil _
within_placed (piece ∷ pieces) whole from at tile =
    let P = IsWithin from (from + length whole) in
    let left = length-drop at whole in
    let behind : from + at + length piece + 1 ≡ from + (at + (length piece + 1)) = omega arith in
    let rest : Tile pieces (drop (at + (length piece + 1)) whole) = rw (← drop-drop (length piece + 1) at whole) tile.2 in
    let others : All P (placed (from + at + length piece + 1) pieces) = rw behind (within_placed pieces whole from (at + (length piece + 1)) rest) in
    let inside = tile.1 in
    elim (cases_lt 0 (length piece)) [
      | inl some ↦ rw (with_some (from + at) (length piece) (placed (from + at + length piece + 1) pieces) some) (All-cons P _ _ (omega arith, omega arith, omega (arith, left, inside)) others)
      | inr none ↦
          let empty : length piece ≡ 0 = omega arith in
          let same : with_token (from + at) (length piece) (placed (from + at + length piece + 1) pieces) ≡ placed (from + at + length piece + 1) pieces = rw empty refl in
          rw same others
    ]

-- each token lies in its line
pub tokens_are_within : (from : ℕ) (line : List ℕ) → All (IsWithin from (from + length line)) (tokens_of from line)
tokens_are_within from line =
    let begin : from + 0 ≡ from = omega arith in
    let within = within_placed (slice_split is_separator (uncommented line)) line from 0 (tile_line line) in
    rw begin at within

-- what holds of the tokens of a line holds of the tokens that were read, which are those
pub if_read : {E : Type 0} (P : List Token → Type 0) (read : Result (List Token) E) (from : ℕ) (line text : List ℕ) → text ≡ uncommented line → IfOk read (λ tokens. tokens ≡ placed from (slice_split is_separator text)) → P (tokens_of from line) → IfOk read P
if_read P (Ok tokens) from line text same is holds =
    let these : tokens ≡ tokens_of from line = rw same at is in
    subst P (sym these) holds
if_read P (Err fault) from line text same is holds = tt
