-- The events of one operation.
use Rattle.std.specs.Prelude.{ℕ, ◌+◌, min, Bool, false, List, [], ◌∷◌, ◌++◌, length, Some, if◌then◌else◌}
use Rattle.std.specs.Fmt.{decimal}
use Rattle.std.specs.Str.{bytes_eq}
use Rattle.pci_command.specs.declared.op_id.OpId.{OpId}
use Rattle.board_model.specs.declared.board.Board.{Board}
use Rattle.history_model.specs.declared.event.Event.{Event}
use Rattle.history_model.specs.declared.event.Event.TheVariants.{Act, Arrive}
use Rattle.trace_text.specs.Words.{master_name}
use Rattle.command_traces.specs.declared.draw.rows.Rows.{Rows}
use Rattle.command_traces.specs.draw.Rows.{Asked}

-- an operation as NAME.INDEX, of a poll without its try
unfoldable pub operation_word : Board → OpId → List ℕ
operation_word board o = master_name board o.master ++ (46 ∷ decimal o.index)

-- an event is an act of the operation that a word names
abbrev pub names_word : Board → List ℕ → Event → Bool
names_word board word (Act on by o step place) = bytes_eq (operation_word board o) word
names_word board word (Arrive lane mark) = false

-- event n names it
abbrev pub with_event : ℕ → Rows → Rows
with_event n rows = record { first = min rows.first n; last = n }

-- so many events happened, and then these
abbrev pub rows_after : Board → List ℕ → ℕ → List Event → Rows → Rows
rows_after board word n [] rows = rows
rows_after board word n (e ∷ events) rows =
    rows_after board word (n + 1) events (if names_word board word e then with_event (n + 1) rows else rows)

-- from the first to the last event that names the operation; where none does there are none, as behind the last event
unfoldable pub rows_of_operation : Board → List Event → List ℕ → Rows
rows_of_operation board events word = rows_after board word 0 events (record { first = length events + 1; last = length events })

-- the events of the operation that a word names are asked for
abbrev pub operation_asked : List ℕ → Asked
operation_asked word board events = Some (rows_of_operation board events word)
