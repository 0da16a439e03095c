-- A printed line of few and short words is one that a text may have.
use Rattle.std.proofs.Common.{◌≡◌, ℕ, ◌+◌, ◌≤◌, true, false, ltb, List, [], ◌∷◌, ◌++◌, length, None, arith, refl, subst}
use Rattle.std.proofs.lemmas.Bool.{le-ltb}
use Rattle.std.proofs.lemmas.List.{length-append}
use Rattle.board_text.specs.Lines.{line_fault}
use Rattle.board_text.proofs.AllowedLemmas.{allowed_line}
use Rattle.board_printer.specs.Lines.{Line, spaced, line_text}
use Rattle.board_roundtrip.specs.words.Printed.{has_words_alone, joined}
use Rattle.board_roundtrip.proofs.lines.WordTexts.{line_of}
use Rattle.board_roundtrip.proofs.words.Laws.{joined_allowed}

-- the bytes of the words, and one behind each
abbrev pub width : List (List ℕ) → ℕ
width [] = 0
width (word ∷ words) = length word + 1 + width words

pub width-append : (words more : List (List ℕ)) → width (words ++ more) ≡ width words + width more
width-append [] more = omega arith
width-append (word ∷ words) more = let others = width-append words more in omega (arith, others)

length-spaced : (words : List (List ℕ)) → length (spaced words []) ≡ width words
length-spaced [] = refl
length-spaced (word ∷ words) =
    let others = length-spaced words in
    let sum = length-append word (spaced words []) in
    omega (arith, others, sum)

short_joined : (words : Line) → width words ≤ 257 → length (joined words) ≤ 256
short_joined [] few = omega arith
short_joined (word ∷ words) few =
    let sum = length-append word (spaced words []) in
    let size = length-spaced words in
    omega (arith, sum, size)

pub line_is_allowed : (words : Line) (line : List ℕ) → has_words_alone words ≡ true → width words ≤ 257 → line_text words ≡ line ++ 10 ∷ [] → line_fault line ≡ None
line_is_allowed words line alone few printed =
    let short : ltb 256 (length (joined words)) ≡ false = le-ltb _ _ (short_joined words few) in
    subst (λ (l : List ℕ). line_fault l ≡ None) (line_of words line printed) (rw (short, allowed_line (joined words) (joined_allowed words alone)) refl)
