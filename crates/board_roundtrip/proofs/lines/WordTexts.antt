-- The words of a line that was printed are those words.
use Rattle.std.proofs.Common.{◌≡◌, ℕ, true, List, [], ◌∷◌, ◌++◌, length, arith, refl, sym, ap, subst, ◌∙◌}
use Rattle.std.proofs.lemmas.List.{length-append}
use Rattle.board_text.specs.Tokens.{words_of}
use Rattle.board_printer.specs.Lines.{Line, line_text}
use Rattle.board_roundtrip.specs.words.Printed.{has_words_alone, joined}
use Rattle.board_roundtrip.proofs.words.Laws.{words_again, line_is}

-- what stands before one last byte is determined
last_off : (xs ys : List ℕ) (z : ℕ) → xs ++ z ∷ [] ≡ ys ++ z ∷ [] → xs ≡ ys
last_off [] [] z same = refl
last_off [] (y ∷ ys) z same =
    let size : length (z ∷ []) ≡ length (y ∷ (ys ++ z ∷ [])) = ap length same in
    let sum = length-append ys (z ∷ []) in
    absurd (omega (arith, size, sum))
last_off (x ∷ xs) [] z same =
    let size : length (x ∷ (xs ++ z ∷ [])) ≡ length (z ∷ []) = ap length same in
    let sum = length-append xs (z ∷ []) in
    absurd (omega (arith, size, sum))
last_off (x ∷ xs) (y ∷ ys) z same =
    let first : x ≡ y = cc in
    let others : xs ++ z ∷ [] ≡ ys ++ z ∷ [] = cc in
    rw (first, last_off xs ys z others) refl

-- the line of a printed text
pub line_of : (words : Line) (line : List ℕ) → line_text words ≡ line ++ 10 ∷ [] → joined words ≡ line
line_of words line printed = last_off (joined words) line 10 (sym (line_is words) ∙ printed)

pub words_are_read : (words : Line) (line : List ℕ) → has_words_alone words ≡ true → line_text words ≡ line ++ 10 ∷ [] → words_of line ≡ words
words_are_read words line alone printed = subst (λ (l : List ℕ). words_of l ≡ words) (line_of words line printed) (words_again words alone)
