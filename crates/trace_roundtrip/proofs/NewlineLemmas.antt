-- Texts that end in a newline: the lines of one, and of a text behind it, are those of both.
use Rattle.std.proofs.Common.{◌≡◌, ℕ, Bool, true, false, cond, List, [], ◌∷◌, ◌++◌, append_assoc, append-nil, refl, sym, ap, subst, ◌∙◌, arith}
use Rattle.std.specs.List.{slice_split, onto_first}
use Rattle.std.proofs.lemmas.List.{length-append}
use Rattle.std.proofs.lemmas.List.Splits.{slice_split-cons_yes, length-slice_split}
use Rattle.board_text.specs.Lines.{is_newline, without_empty_end, lines_of}
use Rattle.board_text.proofs.CutLemmas.{onto_line}
use Rattle.board_printer.specs.Lines.{Line, line_text, text_of}
use Rattle.board_roundtrip.specs.words.Printed.{joined}
use Rattle.board_roundtrip.proofs.CutLemmas.{IsWhole, empty_is_whole}
use Rattle.board_roundtrip.proofs.words.Laws.{line_is, first_piece}

-- a byte before the pieces of a text is one before the first of them, whatever pieces stand behind
onto_more : (test : ℕ → Bool) (byte : ℕ) (text : List ℕ) (pieces : List (List ℕ)) → onto_first byte (slice_split test text ++ pieces) ≡ onto_first byte (slice_split test text) ++ pieces
onto_more test byte text pieces = let piece = first_piece test text in rw (piece.2) refl

-- a text with an element at which it is split has the pieces before it and those behind it
split_between : (test : ℕ → Bool) (text rest : List ℕ) (stop : ℕ) → test stop ≡ true → slice_split test (text ++ stop ∷ rest) ≡ slice_split test text ++ slice_split test rest
split_between test [] rest stop stops = slice_split-cons_yes test stop rest stops
split_between test (byte ∷ bytes) rest stop stops =
    let later = split_between test bytes rest stop stops in
    let P : Bool → Type 0 = λ b. cond b ([] ∷ slice_split test (bytes ++ stop ∷ rest)) (onto_first byte (slice_split test (bytes ++ stop ∷ rest))) ≡ cond b ([] ∷ slice_split test bytes) (onto_first byte (slice_split test bytes)) ++ slice_split test rest in
    elim (test byte) as P [
      | true ↦ ap (λ (pieces : List (List ℕ)). [] ∷ pieces) later
      | false ↦ ap (onto_first byte) later ∙ onto_more test byte bytes (slice_split test rest)
    ]

-- only the last of all pieces can be an empty end
ends_last : (pieces : List (List ℕ)) (text : List ℕ) → without_empty_end (pieces ++ slice_split is_newline text) ≡ pieces ++ lines_of text
ends_last [] text = refl
ends_last (piece ∷ pieces) text =
    let more = length-slice_split is_newline text in
    let sum = length-append pieces (slice_split is_newline text) in
    onto_line piece (pieces ++ slice_split is_newline text) (omega (arith, more, sum)) ∙ ap (λ (lines : List (List ℕ)). piece ∷ lines) (ends_last pieces text)

-- a newline, and a text behind it
newline_then : (text more : List ℕ) → lines_of (text ++ 10 ∷ more) ≡ slice_split is_newline text ++ lines_of more
newline_then text more = ap without_empty_end (split_between is_newline text more 10 refl) ∙ ends_last (slice_split is_newline text) more

-- a text that ends in a newline is whole
newline_is_whole : (text : List ℕ) → IsWhole (text ++ 10 ∷ [])
newline_is_whole text more =
    let alone = newline_then text [] ∙ append-nil (slice_split is_newline text) in
    ap lines_of (append_assoc text (10 ∷ []) more) ∙ newline_then text more ∙ ap (λ (lines : List (List ℕ)). lines ++ lines_of more) (sym alone)

-- two whole texts are a whole text
both_are_whole : (text next : List ℕ) → IsWhole text → IsWhole next → IsWhole (text ++ next)
both_are_whole text next first second more =
    let one = first (next ++ more) in
    let two = second more in
    let three = first next in
    let outer = append_assoc text next more in
    let lines = append_assoc (lines_of text) (lines_of next) (lines_of more) in
    cc

-- the text of a printed line is whole, whatever is in its words
pub line_is_whole : (line : Line) → IsWhole (line_text line)
line_is_whole line = let P : List ℕ → Type 0 = λ text. IsWhole text in subst P (sym (line_is line)) (newline_is_whole (joined line))

-- so is the text of printed lines
pub text_is_whole : (lines : List Line) → IsWhole (text_of lines)
text_is_whole [] = empty_is_whole
text_is_whole (line ∷ lines) = both_are_whole (line_text line) (text_of lines) (line_is_whole line) (text_is_whole lines)
