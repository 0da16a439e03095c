-- What a dump tells: a viewer shows the value that a signal was given last, and at each moment that is what it shows.
use Rattle.std.specs.Prelude.{◌≡◌, ◌≤◌, ℕ, zero, suc, ◌+◌, Bool, false, ◌==◌, ◌&&◌, ◌||◌, List, [], ◌∷◌, ◌++◌, Some, reverse, drop, length, slice_get, codes}
use Rattle.std.specs.List.{find}
use Rattle.std.specs.Str.{bytes_eq}
use Rattle.board_model.specs.declared.board.Board.{Board}
use Rattle.history_model.specs.declared.event.Event.{Event}
use Rattle.board_printer.specs.Lines.{Line}
use Rattle.run_waves.specs.declared.signal.Signal.{Signal}
use Rattle.run_waves.specs.Signals.{signals_of}
use Rattle.run_waves.specs.Shown.{Moment, beginning, next, ending, shown}
use Rattle.run_waves.specs.Dump.{code_of, head_lines, value_line, value_lines, time_line, moment_lines, dump_lines}

-- the moment of this number: 0 before the first event, one for each, one behind the last
abbrev pub moment_from : Moment → List Event → ℕ → Moment
moment_from m events zero = m
moment_from m [] (suc n) = ending m
moment_from m (e ∷ events) (suc n) = moment_from (next m e) events n

-- the lines of values that stand up to that moment
abbrev pub lines_to : Board → List Event → ℕ → List Line
lines_to board events zero = value_lines board beginning 0 (signals_of board)
lines_to board events (suc n) =
    lines_to board events n ++ moment_lines board (suc n) (moment_from beginning events n) (moment_from beginning events (suc n))

-- a line gives a value to the signal with this code: as its second word, or behind its one digit
abbrev pub gives : List ℕ → Line → Bool
gives code ((digit ∷ rest) ∷ []) = (digit == 48 || digit == 49) && bytes_eq rest code
gives code (value ∷ other ∷ []) = bytes_eq other code
gives code line = false

-- at each moment the value that a signal was given last is what it shows
abbrev pub TellsSignals : Board → List Event → Type 0
TellsSignals board events =
    (n k : ℕ) (signal : Signal) → n ≤ length events + 1 → slice_get (signals_of board) k ≡ Some signal
    → find (gives (code_of k)) (reverse (lines_to board events n)) ≡ Some (value_line k (shown board (moment_from beginning events n) signal))

-- the dump is the declarations, the values at first, and the lines of the moments
abbrev pub IsDumped : Board → List Event → Type 0
IsDumped board events =
    dump_lines board events
    ≡ head_lines board
    ++ (time_line 0
    ∷ (codes "$dumpvars" ∷ [])
    ∷ (value_lines board beginning 0 (signals_of board)
    ++ ((codes "$end" ∷ [])
    ∷ drop (length (signals_of board)) (lines_to board events (length events + 1)))))
