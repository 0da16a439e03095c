-- The lines of a text stand in it, so that the slices at the tokens of its lines are their words.
use Rattle.std.proofs.Common.{◌≡◌, ℕ, suc, ◌+◌, ◌-◌, Bool, true, false, cond, List, [], ◌∷◌, ◌++◌, map, length, take, drop, arith, refl, sym, ap, subst, ◌∙◌, ◌==◌}
use Rattle.std.proofs.lemmas.List.{drop-drop, take-append-drop}
use Rattle.std.specs.List.{slice_split, slice_range}
use Rattle.board_text.specs.declared.tokens.Token.{Token}
use Rattle.board_text.specs.Lines.{is_newline, without_empty_end, lines_of}
use Rattle.board_text.specs.Tokens.{is_separator, uncommented, tokens_of, words_of}
use Rattle.board_text.proofs.WordLemmas.{Tile, tile_split, tile_longer, tile_line, texts_of_placed}
use Rattle.plain_decode.specs.declared.text.Line.{Line}
use Rattle.plain_decode.specs.Text.{with_line, token_lines, with_words, word_lines, slices_of}

tile_ends : (pieces : List (List ℕ)) (xs : List ℕ) → Tile pieces xs → Tile (without_empty_end pieces) xs
tile_ends [] xs tile = tt
tile_ends (piece ∷ []) xs tile =
    let Q : Bool → Type 0 = λ b. Tile (cond b [] (piece ∷ [])) xs in
    elim (length piece == 0) as Q [ true ↦ tt | false ↦ tile ]
tile_ends (piece ∷ next ∷ pieces) xs tile = (tile.0, tile.1, tile_ends (next ∷ pieces) (drop (length piece + 1) xs) tile.2)

tile_within : (line xs : List ℕ) → take (length line) xs ≡ line → Tile (slice_split is_separator (uncommented line)) xs
tile_within line xs this =
    let whole : line ++ drop (length line) xs ≡ xs = subst (λ (l : List ℕ). l ++ drop (length line) xs ≡ xs) this (take-append-drop (length line) xs) in
    subst (λ (l : List ℕ). Tile (slice_split is_separator (uncommented line)) l) whole (tile_longer _ line (drop (length line) xs) (tile_line line))

texts_within : (bytes line : List ℕ) (at : ℕ) → take (length line) (drop at bytes) ≡ line → map (λ token. slice_range bytes token.start token.end) (tokens_of at line) ≡ words_of line
texts_within bytes line at this =
    let text : (begin size : ℕ) → slice_range bytes (0 + begin) (0 + begin + size) ≡ take size (drop begin bytes) = λ begin size.
    let place : 0 + begin ≡ begin = omega arith in
    let long : 0 + begin + size - (0 + begin) ≡ size = omega arith in
    rw (long, place) refl in
    let texts = texts_of_placed (λ token. slice_range bytes token.start token.end) (slice_split is_separator (uncommented line)) bytes 0 at text (tile_within line (drop at bytes) this) in
    let place : 0 + at ≡ at = omega arith in
    rw place at texts

not_none : {X : Type 0} (n : ℕ) (none some : X) → cond (suc n == 0) none some ≡ some
not_none n none some = grind arith

one_line_more : (f : Token → List ℕ) (count : ℕ) (found : List Token) (more : List Line) → map (λ line. (line.number, map f line.tokens)) (with_line count found more) ≡ with_words count (map f found) (map (λ line. (line.number, map f line.tokens)) more)
one_line_more f count [] more = refl
one_line_more f count (token ∷ found) more =
    let g : Line → ℕ × List (List ℕ) = λ line. (line.number, map f line.tokens) in
    let here : with_line count (token ∷ found) more ≡ record { number = count; tokens = token ∷ found } ∷ more = not_none (length found) _ _ in
    ap (map g) here ∙ sym (not_none (length (map f found)) _ _)

words_of_lines : (lines : List (List ℕ)) (bytes : List ℕ) (count at : ℕ) → Tile lines (drop at bytes) → map (λ line. (line.number, map (λ token. slice_range bytes token.start token.end) line.tokens)) (token_lines count at lines) ≡ word_lines count lines
words_of_lines [] bytes count at tile = refl
words_of_lines (line ∷ lines) bytes count at tile =
    let f : Token → List ℕ = λ token. slice_range bytes token.start token.end in
    let behind : at + length line + 1 ≡ at + (length line + 1) = omega arith in
    let rest : Tile lines (drop (at + length line + 1) bytes) = rw (behind, ← drop-drop (length line + 1) at bytes) tile.2 in
    let words : map f (tokens_of at line) ≡ words_of line = texts_within bytes line at tile.0 in
    let others = words_of_lines lines bytes (count + 1) (at + length line + 1) rest in
    one_line_more f count (tokens_of at line) (token_lines (count + 1) (at + length line + 1) lines) ∙ rw (words, others) refl

-- the slices of a text at the tokens of its lines are their words
pub lines_have_words : (bytes : List ℕ) → map (slices_of bytes) (token_lines 1 0 (lines_of bytes)) ≡ word_lines 1 (lines_of bytes)
lines_have_words bytes = words_of_lines (lines_of bytes) bytes 1 0 (tile_ends (slice_split is_newline bytes) bytes (tile_split is_newline bytes))
