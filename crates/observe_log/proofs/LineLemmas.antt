-- One line more of a log.
use Rattle.std.proofs.Common.{◌≡◌, ℕ, ◌+◌, Bool, true, false, ◌&&◌, not, List, ◌∷◌, Result, Ok, Err, refl, sym, ap, subst, ◌∙◌}
use Rattle.std.specs.Prelude.{codes}
use Rattle.std.specs.List.{list_any}
use Rattle.board_model.specs.declared.board.Board.{Board}
use Rattle.board_text.specs.Tokens.{words_of}
use Rattle.text_faults.specs.declared.or_no_memory.OrNoMemory.{OrNoMemory}
use Rattle.text_faults.specs.declared.or_no_memory.OrNoMemory.TheVariants.{Fault, NoMemory}
use Rattle.observe_log.specs.declared.fault.LogFault.{LogFault}
use Rattle.observe_log.specs.Boards.{is_readable}
use Rattle.observe_log.specs.Lines.{Read}
use Rattle.observe_log.specs.Logs.{has_words, is_word_alone, words_line, one_line, is_last, lines_read}
use Rattle.observe_log.specs.Reading.{AddsAll}

-- a line is not the last one by its words
pub not_last : (line : List ℕ) (lines words : List (List ℕ)) (last : Bool) → words ≡ words_of line → last ≡ (is_word_alone (codes "end") words && not (list_any has_words lines)) → last ≡ false → is_last line lines ≡ false
not_last line lines words last are is none =
    ap (λ (ws : List (List ℕ)). is_word_alone (codes "end") ws && not (list_any has_words lines)) (sym are) ∙ sym is ∙ none

pub line_more : (board : Board) (number : ℕ) (so_far after : Read) (line : List ℕ) (lines words : List (List ℕ)) → is_readable line ≡ true → is_last line lines ≡ false → words ≡ words_of line
    → words_line board number so_far words ≡ Ok after → lines_read board number so_far (line ∷ lines) ≡ lines_read board (number + 1) after lines
line_more board number so_far after line lines words readable more are told =
    let read : one_line board number so_far line ≡ Ok after = ap (words_line board number so_far) (sym are) ∙ told in
    rw (readable, more, read) refl

line_fails : (board : Board) (number : ℕ) (so_far : Read) (fault : LogFault) (line : List ℕ) (lines : List (List ℕ)) → is_readable line ≡ true → is_last line lines ≡ false
    → one_line board number so_far line ≡ Err fault → lines_read board number so_far (line ∷ lines) ≡ Err fault
line_fails board number so_far fault line lines readable more read = rw (readable, more, read) refl

one_fails : (board : Board) (number : ℕ) (so_far after : Read) (line : List ℕ) (lines : List (List ℕ)) (all : Result Read LogFault) → is_readable line ≡ true → is_last line lines ≡ false
    → lines_read board number so_far (line ∷ lines) ≡ all → (fault : OrNoMemory LogFault) → AddsAll (Err fault) after (one_line board number so_far line) → AddsAll (Err fault) after all
one_fails board number so_far after line lines all readable more whole (Fault fault) told = sym whole ∙ line_fails board number so_far fault line lines readable more told
one_fails board number so_far after line lines all readable more whole NoMemory told = tt

-- the fault of a line is that of all lines
pub all_fail : (board : Board) (number : ℕ) (so_far after : Read) (line : List ℕ) (lines words : List (List ℕ)) (all : Result Read LogFault) → is_readable line ≡ true → is_last line lines ≡ false
    → words ≡ words_of line → lines_read board number so_far (line ∷ lines) ≡ all → (fault : OrNoMemory LogFault) → AddsAll (Err fault) after (words_line board number so_far words)
    → AddsAll (Err fault) after all
all_fail board number so_far after line lines words all readable more are whole fault told =
    one_fails board number so_far after line lines all readable more whole fault (subst (λ (ws : List (List ℕ)). AddsAll (Err fault) after (words_line board number so_far ws)) are told)
