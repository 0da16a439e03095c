-- Which events of a run are drawn.
use Rattle.std.specs.Prelude.{ℕ, ◌+◌, ◌-◌, ◌^◌, min, max, Bool, List, Option, Some, None, Result, Ok, Err, nat_lt, is_some, if◌then◌else◌}
use Rattle.board_model.specs.declared.board.Board.{Board}
use Rattle.history_model.specs.declared.event.Event.{Event}
use Rattle.board_text.specs.declared.numbers.NumberFault.{NumberFault}
use Rattle.board_text.specs.declared.numbers.NumberFault.TheVariants.{TooWide, NotDigits, OutOfRange}
use Rattle.board_text.specs.Numbers.{decimal_answer}
use Rattle.draw_told.specs.declared.close.Close.{Close}
use Rattle.draw_told.specs.declared.close.Close.TheVariants.{Ended, NotEnded, Refused}
use Rattle.command_traces.specs.declared.draw.rows.Rows.{Rows}

-- the number of the first event that is drawn where no rows are asked for: of all, but of events up to one that is not allowed
-- the last 4,096
abbrev pub first_of_all : Close → ℕ → ℕ
first_of_all Ended count = 1
first_of_all NotEnded count = 1
first_of_all (Refused why sentence) count = max (count - 4095) 1

-- the number of the first event that is drawn, of so many
abbrev pub first_row : Close → Option Rows → ℕ → ℕ
first_row close None count = first_of_all close count
first_row close (Some rows) count = rows.first

-- the number of the last event that is drawn, of so many; a LAST above that is lowered to it
abbrev pub last_row : Option Rows → ℕ → ℕ
last_row None count = count
last_row (Some rows) count = min rows.last count

-- Which events are asked for, of a board and events of it: all, or these rows.
abbrev pub Asked : Type 0
Asked = Board → List Event → Option Rows

-- of each board and events the same: all, or these rows
abbrev pub rows_asked : Option Rows → Asked
rows_asked rows board events = rows

-- how many that are
abbrev pub drawn_count : Close → Option Rows → ℕ → ℕ
drawn_count close rows count = last_row rows count + 1 - first_row close rows count

-- the number of an event that a word tells: a decimal of 1 to 10 digits, from 1 on; one of 2^32 or above is lowered to the
-- number before, which no event has
abbrev pub event_by : Result ℕ NumberFault → Option ℕ
event_by (Ok number) = if nat_lt 0 number then Some number else None
event_by (Err OutOfRange) = Some (2 ^ 32 - 1)
event_by (Err TooWide) = None
event_by (Err NotDigits) = None

-- the number of the event that a word tells, where it tells one
unfoldable pub event_of : List ℕ → Option ℕ
event_of word = event_by (decimal_answer word)

-- whether a word tells an event
abbrev pub names_event : List ℕ → Bool
names_event word = is_some (event_of word)

-- the events that two words tell, the first and the last, which is not below the first
abbrev pub rows_by : Option ℕ → Option ℕ → Option Rows
rows_by None last = None
rows_by (Some first) None = None
rows_by (Some first) (Some last) = if nat_lt last first then None else Some (record { first = first; last = last })

-- the events that two words tell, by the words
abbrev pub rows_of : List ℕ → List ℕ → Option Rows
rows_of first last = rows_by (event_of first) (event_of last)
