-- The value change dump of a run (IEEE 1364-1995, section 15, from memory; signals of the kind `string` are GTKWave's).
-- Time is the number of the event: moment 0 is before the first event, and there is one more behind the last.
use Rattle.std.specs.Prelude.{ℕ, Bool, true, false, zero, suc, ◌+◌, ◌/◌, ◌%◌, List, [], ◌∷◌, ◌++◌, length, Option, codes, not, nat_lt, ◌||◌, ◌==◌, if◌then◌else◌}
use Rattle.std.specs.Fmt.{decimal, digits}
use Rattle.std.specs.Str.{bytes_eq}
use Rattle.board_model.specs.declared.board.Board.{Board}
use Rattle.history_model.specs.declared.event.Event.{Event}
use Rattle.board_printer.specs.Lines.{Line, text_of}
use Rattle.run_report.specs.Report.{buses_of}
use Rattle.trace_text.specs.Words.{lane_word, master_name, target_name}
use Rattle.run_waves.specs.declared.signal.BusPart.{BusPart}
use Rattle.run_waves.specs.declared.signal.BusPart.TheVariants as parts
use Rattle.run_waves.specs.declared.signal.LaneCount.{LaneCount}
use Rattle.run_waves.specs.declared.signal.LaneCount.TheVariants.{Owed, Held, Flight, Posts, Requests, Completions}
use Rattle.run_waves.specs.declared.signal.Signal.{Signal}
use Rattle.run_waves.specs.declared.signal.Signal.TheVariants.{Bus, Lane, Index, Try, Waits, Stall}
use Rattle.run_waves.specs.Signals.{signals_on, signals_of}
use Rattle.run_waves.specs.Shown.{Moment, beginning, next, ending, Shown, Text, Level, Number, Nothing, is_event_on, shown}

-- A signal is known by a code: its number in base 94, the lowest digit first, the digit d as the byte 33 + d.

-- of at most so many digits
abbrev pub code_within : ℕ → ℕ → List ℕ
code_within zero k = []
code_within (suc more) k = (33 + k % 94) ∷ (if nat_lt k 94 then [] else code_within more (k / 94))

-- no valid board has as many signals as have four digits: no two of its signals have one code (`codes_are_apart`)
abbrev pub code_of : ℕ → List ℕ
code_of k = code_within 3 k

-- The declarations.

-- the kind of a signal and its width in bits
abbrev pub kind_of_part : BusPart → Line
kind_of_part parts.Event = codes "string" ∷ codes "1" ∷ []
kind_of_part parts.By = codes "string" ∷ codes "1" ∷ []
kind_of_part parts.Op = codes "string" ∷ codes "1" ∷ []
kind_of_part parts.To = codes "string" ∷ codes "1" ∷ []
kind_of_part parts.Value = codes "reg" ∷ codes "32" ∷ []

-- of a count of a lane
abbrev pub kind_of_count : LaneCount → Line
kind_of_count Owed = codes "reg" ∷ codes "4" ∷ []
kind_of_count Held = codes "reg" ∷ codes "4" ∷ []
kind_of_count Flight = codes "reg" ∷ codes "6" ∷ []
kind_of_count Posts = codes "reg" ∷ codes "4" ∷ []
kind_of_count Requests = codes "reg" ∷ codes "4" ∷ []
kind_of_count Completions = codes "reg" ∷ codes "4" ∷ []

-- of each signal
abbrev pub kind_of : Signal → Line
kind_of (Bus bus part) = kind_of_part part
kind_of (Lane lane count) = kind_of_count count
kind_of (Index master) = codes "reg" ∷ codes "11" ∷ []
kind_of (Try master) = codes "reg" ∷ codes "16" ∷ []
kind_of (Waits master) = codes "wire" ∷ codes "1" ∷ []
kind_of (Stall target) = codes "reg" ∷ codes "20" ∷ []

-- what a part and a count are called
abbrev pub part_word : BusPart → List ℕ
part_word parts.Event = codes "event"
part_word parts.By = codes "by"
part_word parts.Op = codes "op"
part_word parts.To = codes "to"
part_word parts.Value = codes "value"

-- what a count is called
abbrev pub count_word : LaneCount → List ℕ
count_word Owed = codes "owed"
count_word Held = codes "held"
count_word Flight = codes "flight"
count_word Posts = codes "posts"
count_word Requests = codes "requests"
count_word Completions = codes "completions"

-- the name of a signal: the bus, the lane or the agent, and what is shown of it
abbrev pub name_of : Board → Signal → List ℕ
name_of board (Bus bus part) = codes "bus" ++ (decimal bus ++ 95 ∷ part_word part)
name_of board (Lane lane count) = codes "lane" ++ (lane_word lane ++ 95 ∷ count_word count)
name_of board (Index master) = master_name board master ++ codes "_index"
name_of board (Try master) = master_name board master ++ codes "_try"
name_of board (Waits master) = master_name board master ++ codes "_waits"
name_of board (Stall target) = target_name board target ++ codes "_stall"

-- `$var KIND SIZE CODE NAME $end`
abbrev pub var_line : Board → ℕ → Signal → Line
var_line board k signal = codes "$var" ∷ (kind_of signal ++ (code_of k ∷ name_of board signal ∷ codes "$end" ∷ []))

-- of signals with numbers from k on
abbrev pub var_lines : Board → ℕ → List Signal → List Line
var_lines board k [] = []
var_lines board k (signal ∷ signals) = var_line board k signal ∷ var_lines board (k + 1) signals

-- `$scope module busB $end`
abbrev pub scope_title : ℕ → Line
scope_title bus = codes "$scope" ∷ codes "module" ∷ (codes "bus" ++ decimal bus) ∷ codes "$end" ∷ []

-- the signals of a bus, with numbers from k on
abbrev pub scope_lines : Board → ℕ → ℕ → List Line
scope_lines board k bus =
    scope_title bus
    ∷ (var_lines board k (signals_on board bus) ++ (codes "$upscope" ∷ codes "$end" ∷ []) ∷ [])

-- bus by bus, with numbers from k on
abbrev pub scopes : Board → ℕ → List ℕ → List Line
scopes board k [] = []
scopes board k (bus ∷ buses) = scope_lines board k bus ++ scopes board (k + length (signals_on board bus)) buses

-- the declarations of all buses of a board
unfoldable pub all_scopes : Board → List Line
all_scopes board = scopes board 0 (buses_of board)

-- all declarations
abbrev pub head_lines : Board → List Line
head_lines board =
    (codes "$version" ∷ codes "pcitree" ∷ codes "$end" ∷ [])
    ∷ (codes "$timescale" ∷ codes "1" ∷ codes "ns" ∷ codes "$end" ∷ [])
    ∷ (all_scopes board ++ (codes "$enddefinitions" ∷ codes "$end" ∷ []) ∷ [])

-- The values.

-- what the signal of number k shows
abbrev pub value_line : ℕ → Shown → Line
value_line k (Text text) = (115 ∷ text) ∷ code_of k ∷ []
value_line k (Level up) = ((if up then 49 else 48) ∷ code_of k) ∷ []
value_line k (Number n) = (98 ∷ digits 2 false n) ∷ code_of k ∷ []
value_line k Nothing = codes "bz" ∷ code_of k ∷ []

-- every signal, with numbers from k on
abbrev pub value_lines : Board → Moment → ℕ → List Signal → List Line
value_lines board m k [] = []
value_lines board m k (signal ∷ signals) = value_line k (shown board m signal) ∷ value_lines board m (k + 1) signals

-- a signal of the bus on which something happens
abbrev pub is_of_event : Board → Option Event → Signal → Bool
is_of_event board event (Bus bus part) = is_event_on board bus event
is_of_event board event (Lane lane count) = false
is_of_event board event (Index master) = false
is_of_event board event (Try master) = false
is_of_event board event (Waits master) = false
is_of_event board event (Stall target) = false

-- both are up, or both down
abbrev pub same_level : Bool → Bool → Bool
same_level true b = b
same_level false b = not b

-- a viewer shows the two alike
abbrev pub same_shown : Shown → Shown → Bool
same_shown (Text a) (Text b) = bytes_eq a b
same_shown (Text a) (Level b) = false
same_shown (Text a) (Number b) = false
same_shown (Text a) Nothing = false
same_shown (Level a) (Text b) = false
same_shown (Level a) (Level b) = same_level a b
same_shown (Level a) (Number b) = false
same_shown (Level a) Nothing = false
same_shown (Number a) (Text b) = false
same_shown (Number a) (Level b) = false
same_shown (Number a) (Number b) = a == b
same_shown (Number a) Nothing = false
same_shown Nothing (Text b) = false
same_shown Nothing (Level b) = false
same_shown Nothing (Number b) = false
same_shown Nothing Nothing = true

-- written at a moment: the signals of the bus on which something happens, so that two equal events in a row show as two,
-- and every signal that shows something else than at the moment before
abbrev pub is_written : Board → Moment → Moment → Signal → Bool
is_written board from to signal = is_of_event board to.event signal || not (same_shown (shown board from signal) (shown board to signal))

-- the line of the signal of number k, where it is written
abbrev pub change_line : Board → Moment → Moment → ℕ → Signal → List Line
change_line board from to k signal = if is_written board from to signal then value_line k (shown board to signal) ∷ [] else []

-- of signals with numbers from k on
abbrev pub change_lines : Board → Moment → Moment → ℕ → List Signal → List Line
change_lines board from to k [] = []
change_lines board from to k (signal ∷ signals) = change_line board from to k signal ++ change_lines board from to (k + 1) signals

-- `#N`
abbrev pub time_line : ℕ → Line
time_line n = (35 ∷ decimal n) ∷ []

-- what changes at moment n
abbrev pub moment_lines : Board → ℕ → Moment → Moment → List Line
moment_lines board n from to = time_line n ∷ change_lines board from to 0 (signals_of board)

-- the moments from number n on: one for each of these events, and the last
abbrev pub moments : Board → ℕ → Moment → List Event → List Line
moments board n from [] = moment_lines board n from (ending from)
moments board n from (e ∷ events) = moment_lines board n from (next from e) ++ moments board (n + 1) (next from e) events

-- what all signals show before the first event, and then these lines
abbrev pub first_lines : Board → List Signal → List Line → List Line
first_lines board signals rest = time_line 0 ∷ (codes "$dumpvars" ∷ []) ∷ (value_lines board beginning 0 signals ++ ((codes "$end" ∷ []) ∷ rest))

-- all lines of the dump of a run: declarations, what is shown before the first event, and each moment
abbrev pub dump_lines : Board → List Event → List Line
dump_lines board events =
    head_lines board
    ++ (time_line 0
    ∷ (codes "$dumpvars" ∷ [])
    ∷ (value_lines board beginning 0 (signals_of board)
    ++ ((codes "$end" ∷ [])
    ∷ moments board 1 beginning events)))

-- the dump of a run, its events oldest first
abbrev pub dump_of : Board → List Event → List ℕ
dump_of board events = text_of (dump_lines board events)
