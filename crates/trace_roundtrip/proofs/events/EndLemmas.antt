-- The last line, as it is printed, is read as the end.
use Rattle.std.proofs.Common.{◌≡◌, ℕ, ◌^◌, ◌<◌, true, [], ◌∷◌, Some, Ok, refl, ap, ◌∙◌, arith}
use Rattle.std.specs.Prelude.{codes}
use Rattle.std.specs.Fmt.{decimal}
use Rattle.board_model.specs.declared.board.Board.{Board}
use Rattle.board_roundtrip.specs.words.Printed.{has_words_alone, joined}
use Rattle.trace_reader.specs.declared.lines.line.TraceLine.TheVariants.{Ends}
use Rattle.trace_reader.specs.lines.Lines.{ends_with, pieces_line, line_of}
use Rattle.trace_roundtrip.proofs.names.NumberLemmas.{number_is_read, number_is_short}
use Rattle.trace_roundtrip.proofs.events.LineLemmas.{line_cut, word_some}
use Rattle.board_roundtrip.proofs.words.Laws.{decimal_word}

-- the words of the last line are words
pub end_plain : (n : ℕ) → n < 2 ^ 32 → has_words_alone (codes "end" ∷ decimal n ∷ []) ≡ true
end_plain n below = rw (decimal_word n below) refl

-- the last line is read as the end, with the number of events
pub end_read : (board : Board) (n : ℕ) → n < 2 ^ 32 → line_of board (joined (codes "end" ∷ decimal n ∷ [])) ≡ Ok (Ends n)
end_read board n below =
    let short = number_is_short n below in
    let cut = line_cut board (codes "end") (decimal n ∷ []) (end_plain n below) (omega (arith, short)) in
    let last : pieces_line board (codes "end" ∷ decimal n ∷ []) ≡ ends_with (Some n) = rw (word_some (decimal n) (decimal_word n below)) (ap ends_with (number_is_read n below)) in
    cut ∙ last
