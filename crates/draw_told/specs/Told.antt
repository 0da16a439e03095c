-- What the lines of an audit tell: the events in which a write landed and was read, and what belongs to that. Histories
-- have the newest event first; events are numbered from 1 on, and 0 is the number of none.
use Rattle.std.specs.Prelude.{ℕ, suc, Bool, true, false, ◌&&◌, ◌||◌, ◌==◌, nat_lt, List, [], ◌∷◌, length, map, if◌then◌else◌}
use Rattle.std.specs.List.{list_any}
use Rattle.pci_command.specs.declared.op_id.OpId.{OpId}
use Rattle.pci_command.specs.Same.{same_op}
use Rattle.board_model.specs.declared.bridge.Place.{Place}
use Rattle.board_model.specs.declared.bridge.Place.TheVariants.{Target, Header, Lane, Nobody}
use Rattle.board_model.specs.declared.board.Board.{Board}
use Rattle.board_model.specs.Ways.{Dword}
use Rattle.history_model.specs.declared.event.Step.{Step}
use Rattle.history_model.specs.declared.event.Step.TheVariants.{Land, Part, Read, Accept, Latch, Take, Stall, MasterAbort, TargetAbort}
use Rattle.history_model.specs.declared.event.Event.{Event}
use Rattle.history_model.specs.declared.event.Event.TheVariants.{Act, Arrive}
use Rattle.history_model.specs.Runs.{history_of}
use Rattle.history_model.specs.Words.{brought}
use Rattle.history_model.specs.Knowledge.{is_landing_of, is_land_of}
use Rattle.law_audit.specs.Audit.{Finding, findings}
use Rattle.draw_told.specs.declared.told.Span.{Span}

-- a Read at a target
abbrev pub is_target : Place → Bool
is_target (Target target) = true
is_target (Header bus) = false
is_target (Lane lane) = false
is_target Nobody = false

-- the step that returns a value
abbrev pub is_read : Step → Bool
is_read Land = false
is_read (Part phases) = false
is_read (Read value) = true
is_read Accept = false
is_read Latch = false
is_read (Take outcome) = false
is_read Stall = false
is_read MasterAbort = false
is_read TargetAbort = false

-- the event is a Read of this operation at a target
abbrev pub is_read_of : OpId → Event → Bool
is_read_of o (Act on by p step place) = same_op p o && (is_read step && is_target place)
is_read_of o (Arrive lane mark) = false

-- the last event that passes, by its number
abbrev pub last_number : (Event → Bool) → List Event → ℕ
last_number test [] = 0
last_number test (e ∷ h) = if test e then suc (length h) else last_number test h

-- the first one
abbrev pub first_number : (Event → Bool) → List Event → ℕ
first_number test [] = 0
first_number test (e ∷ h) = if test e && first_number test h == 0 then suc (length h) else first_number test h

-- the Read whose value a read got: its last one at a target
abbrev pub read_event : List Event → OpId → ℕ
read_event h o = last_number (is_read_of o) h

-- the first landing of what was left of a write
abbrev pub land_event : List Event → OpId → ℕ
land_event h o = first_number (is_land_of o) h

-- the last event before number n in which a data phase of the write landed in the dword: all that was left of it, or a part
abbrev pub landing_event : Board → List Event → ℕ → OpId → Dword → ℕ
landing_event board [] n w word = 0
landing_event board (e ∷ h) n w word =
    if nat_lt (suc (length h)) n && list_any (is_landing_of w) (brought board h word e) then suc (length h) else landing_event board h n w word

-- of a line: where it was read, and the last landing of its write in the dword that was read, before that
abbrev pub span_of : Board → List Event → Finding → Span
span_of board h found =
    record { landed = landing_event board h (read_event h found.read) found.write found.word; read = read_event h found.read }

-- those of all lines
abbrev pub spans_in : Board → List Event → List Finding → List Span
spans_in board h found = map (span_of board h) found

-- the same by the events of a trace
unfoldable pub spans_of : Board → List Event → List Span
spans_of board events = spans_in board (history_of events) (findings board (history_of events))

-- an operation is in the chain of a line
abbrev pub is_in_chain : OpId → Finding → Bool
is_in_chain o found = list_any (λ p. same_op p o) found.chain

-- it is in the chain of one of these lines
abbrev pub is_loud_in : List Finding → OpId → Bool
is_loud_in found o = list_any (is_in_chain o) found

-- it is in the chain of some line of the run
unfoldable pub is_loud : Board → List Event → OpId → Bool
is_loud board events o = is_loud_in (findings board (history_of events)) o

-- an event is the landing or the read of a line, or the read or the first landing of an operation of its chain
abbrev pub is_event_of : List Event → ℕ → OpId → Bool
is_event_of h n o = read_event h o == n || land_event h o == n

-- the same of one line
abbrev pub is_key_of : Board → List Event → ℕ → Finding → Bool
is_key_of board h n found =
    ((span_of board h found).landed == n || (span_of board h found).read == n) || list_any (is_event_of h n) found.chain

-- the same of these lines
abbrev pub is_key_in : Board → List Event → List Finding → ℕ → Bool
is_key_in board h found n = list_any (is_key_of board h n) found

-- the same of all lines of the run
unfoldable pub is_key : Board → List Event → ℕ → Bool
is_key board events n = is_key_in board (history_of events) (findings board (history_of events)) n
