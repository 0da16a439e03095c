-- untagged: the lines that are written for a trace text.
use Rattle.std.specs.Prelude.{ℕ, Bool, List, [], ◌∷◌, ◌++◌, length, map, codes}
use Rattle.std.specs.Fmt.{decimal}
use Rattle.board_model.specs.declared.board.Board.{Board}
use Rattle.board_printer.specs.Lines.{Line, line_text, text_of}
use Rattle.trace_text.specs.Words.{op_word}
use Rattle.untagged_check.specs.declared.verdict.Stale.{Stale}
use Rattle.untagged_apart.specs.Lines.{apart_line}

-- `untagged run of N events`
abbrev pub run_line : ℕ → Line
run_line events = codes "untagged" ∷ codes "run" ∷ codes "of" ∷ decimal events ∷ codes "events" ∷ []

-- `READ stale WRITE by event K`
abbrev pub stale_line : Board → Stale → Line
stale_line board stale =
    op_word board stale.read ∷ codes "stale" ∷ op_word board stale.write ∷ codes "by" ∷ codes "event" ∷ decimal stale.event ∷ []

-- a line for each stale read
abbrev pub stale_lines : Board → List Stale → List ℕ
stale_lines board stale = text_of (map (stale_line board) stale)

-- `stale M`
abbrev pub count_line : ℕ → Line
count_line stale = codes "stale" ∷ decimal stale ∷ []

-- all lines
abbrev pub untagged_text : Board → ℕ → List Stale → Bool → List ℕ
untagged_text board events stale apart =
    line_text (run_line events) ++ stale_lines board stale ++ line_text (count_line (length stale)) ++ line_text (apart_line apart)
