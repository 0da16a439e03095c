-- The text of a report.
use Rattle.std.specs.Prelude.{ℕ, ◌+◌, List, [], ◌∷◌, ◌++◌, length, map, codes}
use Rattle.std.specs.List.{filter, range_with_len}
use Rattle.std.specs.Fmt.{decimal}
use Rattle.list_facts.specs.Lists.{total}
use Rattle.board_model.specs.declared.agents.Master.{Master}
use Rattle.board_model.specs.declared.board.Board.{Board}
use Rattle.board_model.specs.Valid.{is_bus}
use Rattle.board_model.specs.Ways.{bound_of}
use Rattle.board_printer.specs.Lines.{Line, line_text, text_of}
use Rattle.history_model.specs.declared.event.Event.{Event}
use Rattle.run_report.specs.declared.tallies.CountedKind.{CountedKind}
use Rattle.run_report.specs.declared.tallies.CountedKind.TheVariants.{Land, Read, Accept, Latch, Take, Stall, MasterAbort, TargetAbort, Arrive}
use Rattle.run_report.specs.Counts.{count_of}

-- the buses of a board, by number: bus 0, and one below each bridge
abbrev pub buses_of : Board → List ℕ
buses_of board = filter (is_bus board) (range_with_len 0 256)

-- how many operations all programs have, each poll counted once
abbrev pub operations_of : Board → ℕ
operations_of board = total (λ (master : Master). length master.ops) board.masters

-- `buses B masters M operations O`
abbrev pub size_line : ℕ → ℕ → ℕ → Line
size_line buses masters operations =
    codes "buses" ∷ decimal buses ∷ codes "masters" ∷ decimal masters ∷ codes "operations" ∷ decimal operations ∷ []

-- `events N bound K`
abbrev pub length_line : ℕ → ℕ → Line
length_line events bound = codes "events" ∷ decimal events ∷ codes "bound" ∷ decimal bound ∷ []

-- `bus X land A read B accept C latch D take E stall F nobody G tabort H arrive I`
abbrev pub bus_line : ℕ → (CountedKind → ℕ) → Line
bus_line bus count =
    codes "bus" ∷ decimal bus
    ∷ codes "land" ∷ decimal (count Land)
    ∷ codes "read" ∷ decimal (count Read)
    ∷ codes "accept" ∷ decimal (count Accept)
    ∷ codes "latch" ∷ decimal (count Latch)
    ∷ codes "take" ∷ decimal (count Take)
    ∷ codes "stall" ∷ decimal (count Stall)
    ∷ codes "nobody" ∷ decimal (count MasterAbort)
    ∷ codes "tabort" ∷ decimal (count TargetAbort)
    ∷ codes "arrive" ∷ decimal (count Arrive) ∷ []

-- a line for each bus
abbrev pub buses_text : Board → (ℕ → CountedKind → ℕ) → List ℕ
buses_text board count = text_of (map (λ bus. bus_line bus (count bus)) (buses_of board))

-- the report with so many events, and so many of each kind on each bus
abbrev pub report_with : Board → ℕ → (ℕ → CountedKind → ℕ) → List ℕ
report_with board events count =
    line_text (size_line (length board.bridges + 1) (length board.masters) (operations_of board))
    ++ (line_text (length_line events (bound_of board)) ++ buses_text board count)

-- the report of a history
abbrev pub report_of : Board → List Event → List ℕ
report_of board h = report_with board (length h) (count_of board h)
