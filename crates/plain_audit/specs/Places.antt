-- Who knows of a write, by one place for each master: the rule of producer and consumer, PCI Local Bus Specification
-- 2.2, appendix E.
use Rattle.std.specs.Prelude.{◌≡◌, length, is_some, is_none, nat_lt, slice_set, if◌then◌else◌, ℕ, ◌+◌, Bool, true, false, List, [], ◌∷◌, get_or, Option, Some, None, ◌&&◌, ◌||◌, ◌==◌}
use Rattle.std.specs.List.{find}
use Rattle.pci_command.specs.declared.phases.Phase.{Phase}
use Rattle.pci_command.specs.declared.op_id.OpId.{OpId}
use Rattle.pci_command.specs.Same.{same_op}
use Rattle.board_model.specs.declared.board.Board.{Board}
use Rattle.board_model.specs.declared.word.Word.{Word}
use Rattle.board_model.specs.Ways.{Dword}
use Rattle.history_model.specs.declared.event.Event.{Event}
use Rattle.history_model.specs.declared.event.Event.TheVariants.{Act, Arrive}
use Rattle.history_model.specs.Program.{Ending}
use Rattle.history_model.specs.Words.{Landing, landed}
use Rattle.history_model.specs.Knowledge.{has_landed, value_in, Reading, reading_in}
use Rattle.law_fresh.specs.Aware.{Aware, is_behind}
use Rattle.law_audit.specs.Chains.{op_in}
use Rattle.machine_steps.specs.Endings.{ended_op}

-- What was seen in a dword.

-- the dword that the program names so
abbrev pub dword : Word → Dword
dword word = record { target = word.target; space = word.space; address = word.address }

-- the list is not empty
abbrev pub has_some : {X : Type 0} → List X → Bool
has_some [] = false
has_some (x ∷ xs) = true

-- one so far is at the address, or one of the data phases from `at` on
abbrev pub reaches_dword : Bool → ℕ → ℕ → List Phase → Bool
reaches_dword reached address at [] = reached
reaches_dword reached address at (phase ∷ phases) = reaches_dword (reached || at == address) address (at + 4) phases

-- the operation stands behind that of its master's place
abbrev pub knows_by : List (Option OpId) → OpId → Bool
knows_by since q = is_behind (get_or since q.master None) q

-- the operation landed whole and is the write, or was told of it by these places
abbrev pub op_shows : OpId → List (Option OpId) → List Event → OpId → Bool
op_shows w since h o = has_landed h o && (same_op o w || knows_by since o)

-- a data phase belongs to such an operation
abbrev pub shows_by : OpId → List (Option OpId) → List Event → Landing → Bool
shows_by w since h landing = op_shows w since h landing.op

-- of the writes that landed in the dword, the first that is the write or was told of it
abbrev pub first_shown : Board → OpId → List (Option OpId) → List Event → Dword → Option OpId
first_shown board w since h word = op_in (find (shows_by w since h) (landed board h word))

-- the first that was found, or else the other
abbrev pub or_op : Option OpId → Option OpId → Option OpId
or_op None other = other
or_op (Some op) other = Some op

-- the operation of an event, where it brought a data phase and is one of these
abbrev pub shown_op : OpId → List (Option OpId) → List Event → Bool → OpId → Option OpId
shown_op w since h brought o = if brought && op_shows w since h o then Some o else None

-- the same of an event
abbrev pub event_shows : OpId → List (Option OpId) → List Event → Bool → Event → Option OpId
event_shows w since h brought (Act on by op step place) = shown_op w since h brought op
event_shows w since h brought (Arrive lane mark) = None

-- What an operation read.

-- what it last read at a target shows, after one more event
abbrev pub shown_after : Board → OpId → List (Option OpId) → Option OpId → Option Reading → Option OpId
shown_after board w since old None = old
shown_after board w since old (Some reading) = first_shown board w since reading.before reading.word

-- what it last read at a target shows: of the writes that it saw there, the first that is the write or was told of it
abbrev pub last_shown : Board → OpId → List (Option OpId) → List Event → OpId → Option OpId
last_shown board w since [] o = None
last_shown board w since (e ∷ h) o = shown_after board w since (last_shown board w since h o) (reading_in board h o e)

-- What an ending tells.

-- it ends it with a value
abbrev pub ended_with_value : Option Ending → Bool
ended_with_value None = false
ended_with_value (Some ending) = is_some (value_in ending.outcome)

-- an event ends this operation with a value
abbrev pub is_op : OpId → Option OpId → Bool
is_op r None = false
is_op r (Some op) = same_op op r

-- one place for each of 256 masters: the first of its operations that ended and is the write, or was told of it
pub record ArePlaces (aware : Aware) (since : List (Option OpId)) : Type 0 where
  pub many : length since ≡ 256
  pub are : (master : ℕ) → get_or since master None ≡ aware.since master

-- the master of the operation has a place, and it is empty
abbrev pub is_open : List (Option OpId) → OpId → Bool
is_open since op = nat_lt op.master (length since) && is_none (get_or since op.master None)

-- the operation that ends is the write, or a read that ended with a value and saw it, or a write that was told of it
abbrev pub brings_it : Board → OpId → List (Option OpId) → List Event → Option Ending → OpId → Bool
brings_it board w since past ending op =
    same_op op w || (ended_with_value ending && is_some (last_shown board w since past op))

-- the places after the end of the operation, where there is one: its master's is taken, if it is open and the end tells
abbrev pub learned_by : Board → OpId → List (Option OpId) → List Event → Option Ending → Option OpId → List (Option OpId)
learned_by board w since past ending None = since
learned_by board w since past ending (Some op) =
    if is_open since op && brings_it board w since past ending op then slice_set since op.master (Some op) else since

-- the places after one more event, which is the last of the past
abbrev pub learned : Board → OpId → List (Option OpId) → List Event → Option Ending → List (Option OpId)
learned board w since past ending = learned_by board w since past ending (ended_op ending)
