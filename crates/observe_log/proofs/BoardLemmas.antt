-- The board of a log text is what stands before the line `log`.
use Rattle.std.proofs.Common.{◌≡◌, ℕ, ◌+◌, Bool, List, ◌∷◌, length, drop, Result, Ok, Err, refl, sym, ap, subst, ◌∙◌, if◌then◌else◌}
use Rattle.std.specs.List.{slice_range}
use Rattle.board_model.specs.declared.board.Board.{Board}
use Rattle.board_text.specs.Lines.{lines_of}
use Rattle.observe_log.specs.declared.fault.LogFault.{LogFault}
use Rattle.observe_log.specs.declared.parts.LogLine.{LogLine}
use Rattle.observe_log.specs.Boards.{board_in}
use Rattle.observe_log.specs.Lines.{Read, nothing_read}
use Rattle.text_faults.specs.declared.log_line.LogLineFault.TheVariants.{NoFirstLine}
use Rattle.observe_log.specs.Logs.{log_read, by_first, by_parts, by_board, of_line, until_log, with_read, lines_read, TellsBoardOf}
use Rattle.observe_log.specs.Parts.{StartsBehind, Finds}

-- with what was read behind it, or its fault
with_lines : (board : Board) (read : Result Read LogFault) → TellsBoardOf (Ok board) (with_read board read)
with_lines board (Ok read) = refl
with_lines board (Err fault) = tt

pub tells_board : (text : List ℕ) (at : ℕ) (found : LogLine) (board : Board) → StartsBehind text at → Finds text at found
    → board_in (lines_of (slice_range text at found.start)) ≡ Ok board → TellsBoardOf (Ok board) (log_read text)
tells_board text at found board starts finds is =
    let rest = lines_of (drop at text) in
    let part = lines_of (slice_range text at found.start) in
    let behind = lines_of (drop found.behind text) in
    let past = length rest + 2 in
    let number = length part + 3 in
    let by_lines : log_read text ≡ by_first (starts.first ∷ rest) = ap by_first starts.lines in
    let by_head : by_first (starts.first ∷ rest) ≡ by_parts past (until_log rest) =
    ap (λ (first : Bool). if first then by_parts past (until_log rest) else Err (of_line 1 NoFirstLine)) starts.is_first in
    let by_log : by_parts past (until_log rest) ≡ by_board number behind (board_in part) = ap (by_parts past) finds.parts in
    let of_board : by_board number behind (board_in part) ≡ with_read board (lines_read board number nothing_read behind) =
    ap (by_board number behind) is in
    subst (λ read. TellsBoardOf (Ok board) read) (sym (by_lines ∙ by_head ∙ by_log ∙ of_board))
    (with_lines board (lines_read board number nothing_read behind))
