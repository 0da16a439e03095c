-- A line is cut at its first space, and what stands behind it is cut on.
use Rattle.std.proofs.Common.{◌≡◌, ℕ, ◌<◌, ◌≤◌, Bool, true, false, cond, ltb, eqb, List, [], ◌∷◌, ◌++◌, append_assoc, length, map, Some, None, Bor, refl, ap, sym, ◌∙◌, arith}
use Rattle.std.specs.Prelude.{codes}
use Rattle.std.specs.Str.{bytes_eq}
use Rattle.std.specs.List.{position_or_len}
use Rattle.std.proofs.lemmas.Bool.Decides.{nat_tests}
use Rattle.std.proofs.lemmas.List.{length-append, map-append}
use Rattle.std.proofs.lemmas.List.Folds.{list_all-append}
use Rattle.std.proofs.lemmas.List.Sums.{fails_before_first}
use Rattle.std.proofs.lemmas.List.Splits.{slice_split_none, slice_split_first, length-slice_split}
use Rattle.board_statements.specs.Words.{has_mark, before_mark, behind_mark}
use Rattle.board_statements.proofs.KindLemmas.{mark_is_there}
use Rattle.trace_reader.specs.lines.Lines.{is_space, pieces_of, has_bytes, first_word, second_word, begins_end, is_regular, has_shape}

-- where there is a space
space_within : (line : List ℕ) → has_mark 32 line ≡ true → position_or_len is_space line < length line
space_within line marked =
    let there : ltb (position_or_len is_space line) (length line) ≡ true = sym (mark_is_there is_space line) ∙ marked in
    grind (arith, nat_tests)

-- where there is none
no_space_within : (line : List ℕ) → has_mark 32 line ≡ false → length line ≤ position_or_len is_space line
no_space_within line unmarked =
    let there : ltb (position_or_len is_space line) (length line) ≡ false = sym (mark_is_there is_space line) ∙ unmarked in
    grind (arith, nat_tests)

pub cut_at : (line : List ℕ) → has_mark 32 line ≡ true → pieces_of line ≡ before_mark 32 line ∷ pieces_of (behind_mark 32 line)
cut_at line marked = slice_split_first is_space line 0 (space_within line marked)

pub cut_none : (line : List ℕ) → has_mark 32 line ≡ false → pieces_of line ≡ line ∷ []
cut_none line unmarked =
    let all = no_space_within line unmarked in
    slice_split_none is_space line (λ k d inside. fails_before_first is_space line k d (omega arith))

-- a line has a piece
pub has_piece : (line : List ℕ) → 0 < length (pieces_of line)
has_piece line = omega (arith, length-slice_split is_space line)

-- The words so far, and the rest of a line.

-- where a word is behind those so far
pub words_go_on : (words more : List (List ℕ)) (rest line word behind : List ℕ) → more ≡ words ++ word ∷ [] → has_mark 32 rest ≡ true → word ≡ before_mark 32 rest → behind ≡ behind_mark 32 rest → words ++ pieces_of rest ≡ pieces_of line → more ++ pieces_of behind ≡ pieces_of line
words_go_on words more rest line word behind is marked here later whole =
    let cut : word ∷ pieces_of behind ≡ pieces_of rest = ap (λ (w : List ℕ). w ∷ pieces_of behind) here ∙ ap (λ (w : List ℕ). before_mark 32 rest ∷ pieces_of w) later ∙ sym (cut_at rest marked) in
    ap (λ (ws : List (List ℕ)). ws ++ pieces_of behind) is ∙ append_assoc words (word ∷ []) (pieces_of behind) ∙ ap (λ (ws : List (List ℕ)). words ++ ws) cut ∙ whole

pub words_end : (words more : List (List ℕ)) (rest line : List ℕ) → more ≡ words ++ rest ∷ [] → has_mark 32 rest ≡ false → words ++ pieces_of rest ≡ pieces_of line → more ≡ pieces_of line
words_end words more rest line is unmarked whole = is ∙ ap (λ (ws : List (List ℕ)). words ++ ws) (sym (cut_none rest unmarked)) ∙ whole

-- words with a byte each stand between single spaces
pub words_regular : (words more : List (List ℕ)) (word : List ℕ) (empty : Bool) → more ≡ words ++ word ∷ [] → is_regular words ≡ true → empty ≡ eqb (length word) 0 → empty ≡ false → is_regular more ≡ true
words_regular words more word empty is regular told some =
    let both = list_all-append has_bytes words (word ∷ []) in
    let here : eqb (length word) 0 ≡ false = sym told ∙ some in
    ap is_regular is ∙ rw (both, regular, here) refl

-- the bytes of references
abbrev pub nows : List (Bor (List ℕ)) → List (List ℕ)
nows words = map (λ (word : Bor (List ℕ)). word.now) words

pub one_more : (words more : List (Bor (List ℕ))) (word : Bor (List ℕ)) → more ≡ words ++ word ∷ [] → nows more ≡ nows words ++ word.now ∷ []
one_more words more word is = ap nows is ∙ map-append (λ (word : Bor (List ℕ)). word.now) words (word ∷ [])

-- a seventh word is too many
pub too_many : (words : List (List ℕ)) (rest line : List ℕ) → length words ≡ 6 → words ++ pieces_of rest ≡ pieces_of line → has_shape (pieces_of line) ≡ false
too_many words rest line six whole =
    let size = ap length whole in
    let sum = length-append words (pieces_of rest) in
    let some = has_piece rest in
    let long : 6 < length (pieces_of line) = omega (arith, size, sum, some) in
    grind (arith, nat_tests)

-- The first words of a line.

begins_more : (piece : List ℕ) (pieces : List (List ℕ)) → 0 < length pieces → begins_end (piece ∷ pieces) ≡ bytes_eq piece (codes "end")
begins_more piece [] some = absurd (omega arith)
begins_more piece (next ∷ pieces) some = refl

-- it begins with `end` where its first space stands behind this word
pub begins_cut : (line : List ℕ) → has_mark 32 line ≡ true → begins_end (pieces_of line) ≡ bytes_eq (before_mark 32 line) (codes "end")
begins_cut line marked = ap begins_end (cut_at line marked) ∙ begins_more (before_mark 32 line) (pieces_of (behind_mark 32 line)) (has_piece (behind_mark 32 line))

pub begins_none : (line : List ℕ) → has_mark 32 line ≡ false → begins_end (pieces_of line) ≡ false
begins_none line unmarked = ap begins_end (cut_none line unmarked)

-- the first word stands before the first space, or behind it
pub first_here : (line piece : List ℕ) (empty : Bool) → has_mark 32 line ≡ true → piece ≡ before_mark 32 line → empty ≡ eqb (length piece) 0 → empty ≡ false → first_word (pieces_of line) ≡ Some piece
first_here line piece empty marked is told some =
    let here : eqb (length piece) 0 ≡ false = sym told ∙ some in
    let cut : pieces_of line ≡ piece ∷ pieces_of (behind_mark 32 line) = cut_at line marked ∙ ap (λ (w : List ℕ). w ∷ pieces_of (behind_mark 32 line)) (sym is) in
    ap first_word cut ∙ rw here refl

pub first_last : (line : List ℕ) (empty : Bool) → has_mark 32 line ≡ false → empty ≡ eqb (length line) 0 → empty ≡ false → first_word (pieces_of line) ≡ Some line
first_last line empty unmarked told some =
    let here : eqb (length line) 0 ≡ false = sym told ∙ some in
    ap first_word (cut_none line unmarked) ∙ rw here refl

-- the second word is the first one behind the first
pub second_behind : (line piece behind : List ℕ) (empty : Bool) → has_mark 32 line ≡ true → piece ≡ before_mark 32 line → behind ≡ behind_mark 32 line → empty ≡ eqb (length piece) 0 → empty ≡ false → second_word (pieces_of line) ≡ first_word (pieces_of behind)
second_behind line piece behind empty marked is later told some =
    let here : eqb (length piece) 0 ≡ false = sym told ∙ some in
    let cut : pieces_of line ≡ piece ∷ pieces_of (behind_mark 32 line) = cut_at line marked ∙ ap (λ (w : List ℕ). w ∷ pieces_of (behind_mark 32 line)) (sym is) in
    ap second_word cut ∙ rw here (ap (λ (w : List ℕ). first_word (pieces_of w)) (sym later))

pub second_last : (line : List ℕ) → has_mark 32 line ≡ false → second_word (pieces_of line) ≡ None
second_last line unmarked =
    let P : Bool → Type 0 = λ b. cond b (second_word []) (first_word []) ≡ None in
    ap second_word (cut_none line unmarked) ∙ elim (eqb (length line) 0) as P [ true ↦ refl | false ↦ refl ]
