-- What an audit notes down of a run, and what each event adds to it.
use Rattle.std.specs.Prelude.{◌≡◌, ℕ, List, [], length, replicate, Option, Some, None, is_some}
use Rattle.std.specs.Option.{option_map}
use Rattle.pci_command.specs.declared.command.Space.{Space}
use Rattle.pci_command.specs.declared.op_id.OpId.{OpId}
use Rattle.board_model.specs.declared.board.Board.{Board}
use Rattle.history_model.specs.declared.event.By.{By}
use Rattle.history_model.specs.declared.event.By.TheVariants.{Master, Lane as ByLane}
use Rattle.history_model.specs.declared.event.Event.{Event}
use Rattle.history_model.specs.declared.event.Event.TheVariants.{Act, Arrive}
use Rattle.history_model.specs.Program.{Ending, ended}
use Rattle.history_model.specs.Knowledge.{Reading as WordReading, reading_by, value_in}
use Rattle.board_model.specs.declared.word.Word.{Word}
use Rattle.audit_clocks.specs.Tables.{value_of, writes_in, Puts}
use Rattle.audit_clocks.specs.Clocks.{ClockState, Presented, Ended}
use Rattle.audit_landings.specs.Told.{Tells, ToldsFor}
use Rattle.audit_landings.specs.Notes.{LandingNotes, no_landings, Happened, SameLandings}
use Rattle.audit_text.specs.declared.readings.Reading.{Reading}
use Rattle.audit_text.specs.declared.readings.Read.{Read as ReadAt}
use Rattle.audit_text.specs.declared.ends.Ended.{Ended as EndedOp}

-- all that an audit keeps between two events
pub record Notes : Type 0 where
  -- what landed in each dword
  pub landings : LandingNotes
  -- what each operation last read at a target
  pub readings : List (OpId × Reading)
  -- what each read got that ended with a value
  pub gots : List (OpId × Option Reading)
  -- what each master knows
  pub clocks : ClockState

-- before the first event, of so many masters
abbrev pub no_notes : ℕ → Notes
no_notes masters =
    record {
      landings = no_landings;
      readings = [];
      gots = [];
      clocks = record { known = replicate masters (replicate masters []); starts = []; taught = [] };
    }

-- what is there, of what may be there
abbrev pub flat : {X : Type 0} → Option (Option X) → Option X
flat None = None
flat (Some x) = x

-- What was read.

-- the dword of a target at the address
abbrev pub word_of : ℕ → Space → ℕ → Word
word_of target space address = record { target = target; space = space; address = address }

-- what the operation read, by the reading of the model
abbrev pub read_of : OpId → WordReading → ReadAt
read_of o reading = record { op = o; target = reading.word.target; space = reading.word.space; address = reading.word.address; value = reading.value }

-- the dword that was read
abbrev pub word_read : ReadAt → Word
word_read read = word_of read.target read.space read.address

-- the reading of an operation, after so many data phases in the dword and so many events
abbrev pub reading_of : ReadAt → ℕ → ℕ → Reading
reading_of read landed index = record { target = read.target; space = read.space; address = read.address; value = read.value; landed = landed; events = index }

-- what an event reads at a target
abbrev pub read_in : Board → Event → Option ReadAt
read_in board (Act on by o step place) = option_map (read_of o) (reading_by board [] on o step place)
read_in board (Arrive lane mark) = None

-- the reading of an operation after so many events, and what it was told
pub record ReadSo (masters index : ℕ) (notes : LandingNotes) (read : ReadAt) (old new : ClockState) (readings readings_new : List (OpId × Reading)) : Type 0 where
  pub known : new.known ≡ old.known
  pub starts : new.starts ≡ old.starts
  pub told : List ℕ
  pub tells : Tells masters notes.whole old.starts (writes_in (word_read read) notes.landed) told
  pub taught : Puts read.op told old.taught new.taught
  pub reading : Puts read.op (reading_of read (length (writes_in (word_read read) notes.landed)) index) readings readings_new

-- so it is where the event reads; else nothing changes
abbrev pub Reads : ℕ → ℕ → LandingNotes → Option ReadAt → ClockState → ClockState → List (OpId × Reading) → List (OpId × Reading) → Type 0
Reads masters index notes None old new readings readings_new = (new ≡ old) × (readings_new ≡ readings)
Reads masters index notes (Some read) old new readings readings_new = ReadSo masters index notes read old new readings readings_new

-- Who presents, and what ends.

-- what the master knows is noted as it presents; a lane knows nothing
abbrev pub PresentsBy : By → OpId → ClockState → ClockState → Type 0
PresentsBy Master o old new = Presented o old new
PresentsBy (ByLane lane) o old new = new ≡ old

-- the same of an event; an arrival is no presenting
abbrev pub Presents : Event → ClockState → ClockState → Type 0
Presents (Act on by o step place) old new = PresentsBy by o old new
Presents (Arrive lane mark) old new = new ≡ old

-- an end with its value, if it has one
abbrev pub ended_of : Ending → EndedOp
ended_of ending = record { op = ending.op; value = value_in ending.outcome }

-- the operation that an event ends at its master
abbrev pub end_in : Event → Option EndedOp
end_in e = option_map ended_of (ended e)

-- what a read got is kept where it ended with a value
abbrev pub Gets : Option ℕ → OpId → List (OpId × Reading) → List (OpId × Option Reading) → List (OpId × Option Reading) → Type 0
Gets None o readings old new = new ≡ old
Gets (Some value) o readings old new = Puts o (value_of o readings) old new

-- what the end of an operation adds
pub record EndsSo (end : EndedOp) (readings : List (OpId × Reading)) (old new : ClockState) (gots gots_new : List (OpId × Option Reading)) : Type 0 where
  pub gets : Gets end.value end.op readings gots gots_new
  pub ended : Ended end.op (is_some end.value) old new

-- so it is where the event ends one; else nothing changes
abbrev pub Ends : Option EndedOp → List (OpId × Reading) → ClockState → ClockState → List (OpId × Option Reading) → List (OpId × Option Reading) → Type 0
Ends None readings old new gots gots_new = (new ≡ old) × (gots_new ≡ gots)
Ends (Some end) readings old new gots gots_new = EndsSo end readings old new gots gots_new

-- one more event, after so many
pub record Happens (board : Board) (index : ℕ) (e : Event) (old new : Notes) : Type 0 where
  pub looked : LandingNotes
  pub read : ClockState
  pub presented : ClockState
  pub reads : Reads (length board.masters) index old.landings (read_in board e) old.clocks read old.readings new.readings
  pub same : SameLandings old.landings looked
  pub tolds : ToldsFor (length board.masters) looked.whole old.clocks.starts looked.landed looked.tolds
  pub presents : Presents e read presented
  pub happened : Happened board index e looked new.landings
  pub ends : Ends (end_in e) new.readings presented new.clocks old.gots new.gots
