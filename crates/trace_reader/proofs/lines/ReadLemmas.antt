-- The line at a place of a text, found and cut in one pass.
use Rattle.std.proofs.Common.{◌≡◌, ℕ, ◌+◌, ◌<◌, ◌≤◌, Bool, false, cond, List, ◌∷◌, length, take, drop, ap, sym, ◌∙◌, Result}
use Rattle.std.specs.List.{position_or_len}
use Rattle.std.proofs.lemmas.List.{length-take-le}
use Rattle.std.proofs.lemmas.List.Sums.{prefix_len-le-length}
use Rattle.board_model.specs.declared.board.Board.{Board}
use Rattle.board_text.specs.Lines.{is_newline, lines_of}
use Rattle.board_text.proofs.CutLemmas.{next_step}
use Rattle.text_faults.specs.declared.trace_line.TraceLineFault.{TraceLineFault}
use Rattle.text_faults.specs.declared.trace_line.TraceLineFault.TheVariants.{Unreadable}
use Rattle.trace_reader.specs.declared.lines.line.TraceLine.{TraceLine}
use Rattle.trace_reader.specs.lines.Lines.{is_unreadable, pieces_of, pieces_line, line_of}
use Rattle.trace_reader.specs.lines.Scanned.{first_line}
use Rattle.trace_reader.proofs.lines.ShapeLemmas.{fault_so}

-- the first line of what is left, and the lines behind it
pub scanned_line : (text rest line : List ℕ) (at next : ℕ) → at < length text → rest ≡ drop at text → line ≡ first_line rest → next ≡ at + length line + 1 → lines_of (drop at text) ≡ line ∷ lines_of (drop next text)
scanned_line text rest line at next inside is first goes =
    let within : position_or_len is_newline rest ≤ length rest = prefix_len-le-length _ rest in
    let size : length line ≡ position_or_len is_newline rest = ap length first ∙ length-take-le (position_or_len is_newline rest) rest within in
    let place : length line ≡ position_or_len is_newline (drop at text) = size ∙ ap (position_or_len is_newline) is in
    let cut : take (length line) (drop at text) ≡ line = ap (λ (n : ℕ). take n (drop at text)) size ∙ ap (take (position_or_len is_newline rest)) (sym is) ∙ sym first in
    next_step text at (length line) inside place
    ∙ ap (λ (l : List ℕ). l ∷ lines_of (drop (at + length line + 1) text)) cut
    ∙ ap (λ (n : ℕ). line ∷ lines_of (drop n text)) (sym goes)

-- a readable line is what its pieces are
pub scanned_read : (board : Board) (line : List ℕ) (words : List (List ℕ)) (read : Result TraceLine TraceLineFault) → is_unreadable line ≡ false → words ≡ pieces_of line → read ≡ pieces_line board words → read ≡ line_of board line
scanned_read board line words read readable pieces reads =
    reads ∙ ap (pieces_line board) pieces
    ∙ sym (ap (λ (b : Bool). cond b (fault_so Unreadable) (pieces_line board (pieces_of line))) readable)
