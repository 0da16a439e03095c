-- The text of a trace: its board, its events from the oldest on, and how many there are.
use Rattle.std.specs.Prelude.{ℕ, List, [], ◌∷◌, ◌++◌, map, length, codes}
use Rattle.std.specs.Fmt.{decimal}
use Rattle.board_model.specs.declared.board.Board.{Board}
use Rattle.history_model.specs.declared.event.Event.{Event}
use Rattle.board_printer.specs.Lines.{line_text, text_of}
use Rattle.board_printer.specs.Boards.{board_text}
use Rattle.trace_text.specs.Events.{event_line}

-- `pcitrace 1`, the board, `events`, the events, `end N`
unfoldable pub trace_of : Board → List Event → List ℕ
trace_of board events =
    line_text (codes "pcitrace" ∷ codes "1" ∷ [])
    ++ (board_text board
    ++ (line_text (codes "events" ∷ [])
    ++ (text_of (map (event_line board) events)
    ++ line_text (codes "end" ∷ decimal (length events) ∷ []))))
