-- What a master was told of: the rule of producer and consumer, PCI Local Bus Specification 2.2, appendix E.
use Rattle.std.specs.Prelude.{◌≡◌, ◌≢◌, ℕ, Bool, true, false, List, [], ◌∷◌, Option, Some, None, Contains, is_some, not, ◌&&◌, ◌||◌, ◌==◌, nat_lt, if◌then◌else◌, slice_get}
use Rattle.std.specs.List.{list_any}
use Rattle.pci_command.specs.declared.request.Request.{Request}
use Rattle.pci_command.specs.declared.op_id.OpId.{OpId}
use Rattle.pci_command.specs.declared.op_id.Outcome.{Outcome}
use Rattle.pci_command.specs.declared.op_id.Outcome.TheVariants.{Value, Written, Aborted, Nobody as NobodyClaimed}
use Rattle.pci_command.specs.Command.{space_of}
use Rattle.pci_command.specs.Same.{same_op}
use Rattle.board_model.specs.declared.agents.Master.{Master as MasterAgent}
use Rattle.board_model.specs.declared.bridge.Place.{Place}
use Rattle.board_model.specs.declared.bridge.Place.TheVariants.{Target, Header, Lane, Nobody}
use Rattle.board_model.specs.declared.op.Op.{Op}
use Rattle.board_model.specs.declared.board.Board.{Board}
use Rattle.board_model.specs.Requests.{op_of, request_of, reads}
use Rattle.board_model.specs.Ways.{Dword, address_in, words_of}
use Rattle.history_model.specs.declared.event.Step.{Step}
use Rattle.history_model.specs.declared.event.Step.TheVariants.{Land, Part, Read, Accept, Latch, Take, Stall, MasterAbort, TargetAbort}
use Rattle.history_model.specs.declared.event.Event.{Event}
use Rattle.history_model.specs.declared.event.Event.TheVariants.{Act, Arrive}
use Rattle.history_model.specs.Program.{Ending, ended}
use Rattle.history_model.specs.Words.{Landing, landed}

-- How operations ended.

-- the value of an outcome, where it has one
abbrev pub value_in : Outcome → Option ℕ
value_in (Value value) = Some value
value_in Written = None
value_in Aborted = None
value_in NobodyClaimed = None

-- the outcome of an ending, where it is of the operation
abbrev pub outcome_in : OpId → Option Ending → Option Outcome
outcome_in o None = None
outcome_in o (Some ending) = if same_op ending.op o then Some ending.outcome else None

-- the outcome with which an event ends the operation at its master, if it does
abbrev pub ends_as : OpId → Event → Option Outcome
ends_as o e = outcome_in o (ended e)

-- the operation ended at its master
abbrev pub has_ended : List Event → OpId → Bool
has_ended h o = list_any (λ e. is_some (ends_as o e)) h

-- the value of an ending, where it has one
abbrev pub value_of_ending : Option Outcome → Option ℕ
value_of_ending None = None
value_of_ending (Some outcome) = value_in outcome

-- the value with which an event ends the read at its master, if it does
abbrev pub ends_with : OpId → Event → Option ℕ
ends_with r e = value_of_ending (ends_as r e)

-- the first value, or else the other
abbrev pub or_else : Option ℕ → Option ℕ → Option ℕ
or_else None other = other
or_else (Some value) other = Some value

-- the value that the read's master ended it with
abbrev pub given_value : List Event → OpId → Option ℕ
given_value [] r = None
given_value (e ∷ h) r = or_else (ends_with r e) (given_value h r)

-- the history up to and with the event that ended the read with a value; empty where none did
abbrev pub up_to_end : OpId → List Event → List Event
up_to_end r [] = []
up_to_end r (e ∷ h) = if is_some (ends_with r e) then e ∷ h else up_to_end r h

-- What a read got.

-- a Read event at a target: the dword, the value, and the history before it
pub record Reading : Type 0 where
  pub word : Dword
  pub value : ℕ
  pub before : List Event

-- what a read of the value at the target is, of the request and after the history
abbrev pub reading_of : ℕ → ℕ → List Event → Option Request → Option Reading
reading_of target value h None = None
reading_of target value h (Some request) =
    let space = space_of request.command in
    Some (record { word = record { target = target; space = space; address = address_in space request.address }; value = value; before = h })

-- where a target claimed: the header of a bridge and a completion that is taken are no Read event at a
-- target
abbrev pub reading_at : Board → List Event → ℕ → OpId → ℕ → Place → Option Reading
reading_at board h on r value (Target target) = reading_of target value h (request_of board r on)
reading_at board h on r value (Header bus) = None
reading_at board h on r value (Lane lane) = None
reading_at board h on r value Nobody = None

-- where the step is a read
abbrev pub reading_by : Board → List Event → ℕ → OpId → Step → Place → Option Reading
reading_by board h on r Land place = None
reading_by board h on r (Part phases) place = None
reading_by board h on r (Read value) place = reading_at board h on r value place
reading_by board h on r Accept place = None
reading_by board h on r Latch place = None
reading_by board h on r (Take outcome) place = None
reading_by board h on r Stall place = None
reading_by board h on r MasterAbort place = None
reading_by board h on r TargetAbort place = None

-- what an event after the history read for the operation
abbrev pub reading_in : Board → List Event → OpId → Event → Option Reading
reading_in board h r (Act on by o step place) = if same_op o r then reading_by board h on o step place else None
reading_in board h r (Arrive lane mark) = None

-- the first reading, or else the other
abbrev pub reading_or : Option Reading → Option Reading → Option Reading
reading_or None other = other
reading_or (Some reading) other = Some reading

-- the last Read event of the operation at a target
abbrev pub last_reading : Board → OpId → List Event → Option Reading
last_reading board r [] = None
last_reading board r (e ∷ h) = reading_or (reading_in board h r e) (last_reading board r h)

-- what a read got that its master ended with a value: the last Read event at a target up to and with that end
abbrev pub got : Board → List Event → OpId → Option Reading
got board h r = last_reading board r (up_to_end r h)

-- What it saw.

-- a step in which all that is left of a write lands
abbrev pub is_land_step : Step → Bool
is_land_step Land = true
is_land_step (Part phases) = false
is_land_step (Read value) = false
is_land_step Accept = false
is_land_step Latch = false
is_land_step (Take outcome) = false
is_land_step Stall = false
is_land_step MasterAbort = false
is_land_step TargetAbort = false

-- an event in which all that is left of the write lands
abbrev pub is_land_of : OpId → Event → Bool
is_land_of w (Act on by o step place) = same_op o w && is_land_step step
is_land_of w (Arrive lane mark) = false

-- the write landed whole
abbrev pub has_landed : List Event → OpId → Bool
has_landed h w = list_any (is_land_of w) h

-- the data phase belongs to the write
abbrev pub is_landing_of : OpId → Landing → Bool
is_landing_of w landing = same_op landing.op w

-- a reading saw a write, as `saw` says of a read
abbrev pub saw_in : Board → OpId → Option Reading → Bool
saw_in board w None = false
saw_in board w (Some reading) =
    list_any (is_landing_of w) (landed board reading.before reading.word) && has_landed reading.before w

-- a read saw a write that had landed whole before it, and had brought a data phase to the dword
abbrev pub saw : Board → List Event → OpId → OpId → Bool
saw board h r w = saw_in board w (got board h r)

-- Who was told of what.

-- behind it in the order of a program: a later operation, or a later try of the same poll
abbrev pub stands_after : OpId → OpId → Bool
stands_after p q = nat_lt p.index q.index || (p.index == q.index && nat_lt p.attempt q.attempt)

-- `q` stands behind `p`, which ended, in the program of one master
abbrev pub later : Board → List Event → OpId → OpId → Bool
later board h p q = p.master == q.master && has_ended h p && stands_after p q && is_some (op_of board q)

-- a step of telling: to a later operation of the same master, or from a write to a read that saw it
abbrev pub tells : Board → List Event → OpId → OpId → Bool
tells board h p q = later board h p q || saw board h q p

-- one or more steps
pub data Chain (board : Board) (h : List Event) : OpId → OpId → Type 0 where
  one : (p q : OpId) → tells board h p q ≡ true → Chain board h p q
  more : (p q r : OpId) → tells board h p q ≡ true → Chain board h q r → Chain board h p r

-- an operation of the board that writes
abbrev pub is_write : Board → OpId → Bool
is_write board o = is_some (op_of board o) && not (reads board o)

-- an operation was told of a write, through flags and any number of masters
abbrev pub Told : Board → List Event → OpId → OpId → Type 0
Told board h w r = (is_write board w ≡ true) × Chain board h w r

-- Freshness.

-- the words of an operation of a master, where both are there
abbrev pub words_on : Board → Option Op → Option MasterAgent → List Dword
words_on board None master = []
words_on board (Some op) None = []
words_on board (Some op) (Some master) = words_of board op master.bus

-- the words of an operation, from its master's bus
abbrev pub words_named : Board → OpId → List Dword
words_named board o = words_on board (op_of board o) (slice_get board.masters o.master)

-- every read that was told of a write, and read a word of it, read after it had landed; every read returned what
-- it read at the target; and every read of a word that ended has read there
pub record Fresh (board : Board) (h : List Event) : Type 0 where
  pub informed : (w r : OpId) (reading : Reading) → Told board h w r → got board h r ≡ Some reading →
      Contains (words_named board w) reading.word → has_landed reading.before w ≡ true
  pub returned : (r : OpId) (reading : Reading) → got board h r ≡ Some reading → given_value h r ≡ Some reading.value
  pub always_read : (r : OpId) → reads board r ≡ true → words_named board r ≢ [] → has_ended h r ≡ true →
      is_some (got board h r) ≡ true
