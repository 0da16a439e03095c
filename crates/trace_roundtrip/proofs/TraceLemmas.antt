-- A trace text is read as its board and its events.
use Rattle.std.proofs.Common.{◌≡◌, ℕ, ◌+◌, ◌^◌, ◌<◌, true, false, List, [], ◌∷◌, ◌++◌, append-nil, length, map, Some, None, Result, Ok, refl, sym, ap, ◌∙◌}
use Rattle.std.specs.Prelude.{codes}
use Rattle.std.specs.List.{AllByRecursion}
use Rattle.std.proofs.lemmas.List.Concat.{flat_map-append}
use Rattle.board_model.specs.declared.board.Board.{Board}
use Rattle.board_model.specs.WellFormed.{is_well_formed}
use Rattle.board_model.specs.Valid.{lacks_a_bus}
use Rattle.history_model.specs.declared.event.Event.{Event}
use Rattle.board_text.specs.Lines.{lines_of}
use Rattle.board_printer.specs.Lines.{Line, line_text, text_of}
use Rattle.board_printer.specs.Boards.{board_lines, board_text}
use Rattle.board_model.specs.Fits.{BoardFits}
use Rattle.board_roundtrip.specs.words.Printed.{joined}
use Rattle.board_parser.specs.Boards.{read_lines, ended}
use Rattle.board_roundtrip.proofs.BoardLemmas.{board_law}
use Rattle.trace_text.specs.Events.{event_line, HasLine}
use Rattle.trace_text.specs.Traces.{trace_of}
use Rattle.trace_reader.specs.declared.fault.TraceFault.{TraceFault}
use Rattle.trace_reader.specs.Traces.{events_read, with_events, by_board, by_parts, by_first, trace_read}
use Rattle.board_roundtrip.proofs.CutLemmas.{IsWhole}
use Rattle.trace_roundtrip.specs.events.Fits.{EventFits}
use Rattle.trace_roundtrip.proofs.NewlineLemmas.{line_is_whole, text_is_whole}
use Rattle.trace_roundtrip.proofs.BoardPartLemmas.{parts_of, draft_of}
use Rattle.trace_roundtrip.proofs.EventPartLemmas.{Bears, end_of, lines_from, words_from, events_from}
use Rattle.board_roundtrip.proofs.words.Laws.{lines_again}

-- the lines before the board and before the events
abbrev first : Line
first = codes "pcitrace" ∷ codes "1" ∷ []

abbrev middle : Line
middle = codes "events" ∷ []

-- the lines of the text of a board, whatever its words are
board_is_whole : (board : Board) → IsWhole (board_text board)
unfolding board_text
board_is_whole board = text_is_whole (board_lines board)

-- the text of the events and of the last line is one text of lines
last_text : (board : Board) (events : List Event) (count : ℕ) → text_of (map (event_line board) events) ++ line_text (end_of count) ≡ text_of (lines_from board events count)
last_text board events count =
    ap (λ (t : List ℕ). text_of (map (event_line board) events) ++ t) (sym (append-nil (line_text (end_of count))))
    ∙ sym (flat_map-append line_text (map (event_line board) events) (end_of count ∷ []))

-- the lines of a trace text
lines_of_trace : (board : Board) (events : List Event) → Bears board → AllByRecursion EventFits events → AllByRecursion (HasLine board) events → length events < 2 ^ 32
    → lines_of (trace_of board events) ≡ codes "pcitrace 1" ∷ (lines_of (board_text board) ++ codes "events" ∷ map joined (lines_from board events (length events)))
unfolding trace_of
lines_of_trace board events bears fit has small =
    let end = text_of (map (event_line board) events) ++ line_text (end_of (length events)) in
    let last : lines_of end ≡ map joined (lines_from board events (length events)) =
    ap lines_of (last_text board events (length events)) ∙ lines_again (lines_from board events (length events)) (words_from board events (length events) bears fit has small) in
    line_is_whole first (board_text board ++ (line_text middle ++ end))
    ∙ ap (λ (ls : List (List ℕ)). codes "pcitrace 1" ∷ ls) (board_is_whole board (line_text middle ++ end)
    ∙ ap (λ (ls : List (List ℕ)). lines_of (board_text board) ++ ls) (line_is_whole middle end
    ∙ ap (λ (ls : List (List ℕ)). codes "events" ∷ ls) last))

-- read as this board and these events
abbrev pair_so : Board → List Event → Result (Board × List Event) TraceFault
pair_so board events = Ok (board, events)

-- a first line, lines that are read as the board, `events`, and lines that are read as the events
by_lines : (board : Board) (events : List Event) (lines behind : List (List ℕ)) → ended (read_lines None 1 lines) ≡ Ok board → ((number : ℕ) → with_events board (events_read board number [] behind) ≡ pair_so board events)
    → by_first (codes "pcitrace 1" ∷ (lines ++ codes "events" ∷ behind)) ≡ pair_so board events
by_lines board events lines behind of_board of_events =
    let it = draft_of (read_lines None 1 lines) board of_board in
    let past = length (lines ++ codes "events" ∷ behind) + 2 in
    ap (by_parts past) (parts_of None (Some it.0) 1 lines behind it.1)
    ∙ ap (by_board (length lines + 3) behind) of_board
    ∙ of_events (length lines + 3)

-- the text of a trace is read as its board and its events
pub trace_law : (board : Board) (events : List Event) → BoardFits board → is_well_formed board ≡ true → lacks_a_bus board ≡ false → AllByRecursion EventFits events → AllByRecursion (HasLine board) events → length events < 2 ^ 32 → trace_read (trace_of board events) ≡ Ok (board, events)
trace_law board events fits formed buses fit has small =
    let bears : Bears board = record { fits = fits; formed = formed; buses = buses } in
    let behind = map joined (lines_from board events (length events)) in
    ap by_first (lines_of_trace board events bears fit has small)
    ∙ by_lines board events (lines_of (board_text board)) behind (board_law board fits formed)
    (λ number. ap (with_events board) (events_from board number [] events events bears fit has refl small))
