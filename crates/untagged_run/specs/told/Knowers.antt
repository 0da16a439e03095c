-- What is kept of what each master knows of all writes, on bridges that keep no local master, and what each event adds.
use Rattle.std.specs.Prelude.{◌≡◌, ◌<◌, ◌-◌, ℕ, max, List, [], ◌∷◌, ◌++◌, length, Option, Some, None, is_some, get_or, slice_get, ◌==◌, false}
use Rattle.std.specs.Option.{option_map}
use Rattle.pci_command.specs.declared.op_id.OpId.{OpId}
use Rattle.board_model.specs.declared.bridge.Place.{Place}
use Rattle.board_model.specs.declared.bridge.Place.TheVariants.{Target, Header, Lane, Nobody}
use Rattle.board_model.specs.declared.board.Board.{Board}
use Rattle.board_model.specs.Requests.{request_of}
use Rattle.history_model.specs.declared.event.By.{By}
use Rattle.history_model.specs.declared.event.By.TheVariants.{Master, Lane as ByLane}
use Rattle.history_model.specs.declared.event.Step.{Step}
use Rattle.history_model.specs.declared.event.Step.TheVariants.{Land, Part, Read, Accept, Latch, Take, Stall, MasterAbort, TargetAbort}
use Rattle.history_model.specs.declared.event.Event.{Event}
use Rattle.history_model.specs.declared.event.Event.TheVariants.{Act, Arrive}
use Rattle.history_model.specs.Program.{ended}
use Rattle.board_model.specs.declared.word.Word.{Word}
use Rattle.audit_clocks.specs.Rows.{number, own, Raises}
use Rattle.audit_clocks.specs.Tables.{value_of, list_in, numbers_of, writes_in, Puts}
use Rattle.audit_landings.specs.Notes.{LandingNotes, AreLandings, SameLandings, Happened}
use Rattle.audit_landings.specs.Told.{Tells, ToldsFor}
use Rattle.untagged_run.specs.declared.got.Got.{Got}
use Rattle.untagged_run.specs.Flat.{flat}
use Rattle.machine_steps.specs.Endings.{ended_op}
use Rattle.machine_steps.specs.Words.{word_at}
use Rattle.law_untagged.specs.clocks.Clocks.{number_in, clocks_of}

-- all that is kept between two events
pub record KnowerState : Type 0 where
  -- by each master
  pub known : List (List ℕ)
  -- by each operation's master as it first presented it
  pub starts : List (OpId × List ℕ)
  -- by each event that read a dword of a target
  pub told : List (Option (List ℕ))
  pub landings : LandingNotes

-- What an event reads.

-- the dword that a step reads: only a Read at a target has one
abbrev pub word_by : Board → ℕ → OpId → Step → Place → Option Word
word_by board on o (Read value) (Target target) = option_map (word_at target) (request_of board o on)
word_by board on o (Read value) (Header bus) = None
word_by board on o (Read value) (Lane lane) = None
word_by board on o (Read value) Nobody = None
word_by board on o Land place = None
word_by board on o (Part phases) place = None
word_by board on o Accept place = None
word_by board on o Latch place = None
word_by board on o (Take outcome) place = None
word_by board on o Stall place = None
word_by board on o MasterAbort place = None
word_by board on o TargetAbort place = None

-- the dword that an event reads at a target
abbrev pub word_in : Board → Event → Option Word
word_in board (Act on by o step place) = word_by board on o step place
word_in board (Arrive lane mark) = None

-- what a Read event tells: as much as the writes that landed whole in its dword
abbrev pub ToldAt : ℕ → LandingNotes → List (OpId × List ℕ) → Option Word → Option (List ℕ) → Type 0
ToldAt masters notes starts None told = told ≡ None
ToldAt masters notes starts (Some word) None = ⊥
ToldAt masters notes starts (Some word) (Some numbers) = Tells masters notes.whole starts (writes_in word notes.landed) numbers

-- Who presents.

-- what a master knows is noted where nothing was
abbrev pub StartsBy : OpId → Option (List ℕ) → Option (List ℕ) → List (OpId × List ℕ) → List (OpId × List ℕ) → Type 0
StartsBy o (Some start) known old new = new ≡ old
StartsBy o None None old new = new ≡ old
StartsBy o None (Some numbers) old new = Puts o numbers old new

-- a master notes it, a lane knows nothing
abbrev pub PresentsBy : By → OpId → List (List ℕ) → List (OpId × List ℕ) → List (OpId × List ℕ) → Type 0
PresentsBy Master o known old new = StartsBy o (value_of o old) (slice_get known o.master) old new
PresentsBy (ByLane lane) o known old new = new ≡ old

-- the same of an event; an arrival is no presenting
abbrev pub Presents : Event → List (List ℕ) → List (OpId × List ℕ) → List (OpId × List ℕ) → Type 0
Presents (Act on by o step place) known old new = PresentsBy by o known old new
Presents (Arrive lane mark) known old new = new ≡ old

-- What ends.

-- what was told by the event of that number, from 1
abbrev pub told_at : List (Option (List ℕ)) → Option Got → Option (List ℕ)
told_at told None = None
told_at told (Some got) = flat (slice_get told (got.event - 1))

-- of a master
abbrev pub known_at : List (List ℕ) → ℕ → List ℕ
known_at known master = get_or known master []

-- the master of an operation knows it, and what it was told; each other knows what it knew
pub record Learns (o : OpId) (told : List ℕ) (old new : List (List ℕ)) : Type 0 where
  pub masters : length new ≡ length old
  pub others : (master : ℕ) → (o.master == master) ≡ false → known_at new master ≡ known_at old master
  pub mine : o.master < length old → Raises (known_at old o.master) (known_at new o.master) (λ author. max (number told author) (own o author))

-- so it is where an operation ended; else nothing changes
abbrev pub LearnsBy : Option OpId → Option (List ℕ) → List (List ℕ) → List (List ℕ) → Type 0
LearnsBy None told old new = new ≡ old
LearnsBy (Some o) told old new = Learns o (list_in told) old new

-- One more event.

-- what was told stands for what is noted of the landings
abbrev pub AreTold : ℕ → KnowerState → Type 0
AreTold masters k = ToldsFor masters k.landings.whole k.starts k.landings.landed k.landings.tolds

-- one more event: what it reads, lands, presents and ends is kept
pub record Happens (board : Board) (e : Event) (got : Option Got) (old new : KnowerState) : Type 0 where
  -- what it read
  pub read : Option (List ℕ)
  pub read_is : ToldAt (length board.masters) old.landings old.starts (word_in board e) read
  pub told : new.told ≡ old.told ++ read ∷ []
  -- the landings, as far as they were looked at
  pub looked : LandingNotes
  pub same : SameLandings old.landings looked
  pub tolds : ToldsFor (length board.masters) looked.whole old.starts looked.landed looked.tolds
  pub landings : Happened board (length old.told) e looked new.landings
  pub starts : Presents e old.known old.starts new.starts
  pub learns : LearnsBy (ended_op (ended e)) (told_at new.told got) old.known new.known

-- What it stands for.

-- it stands for a run of these events, the latest first
pub record Knows (board : Board) (h : List Event) (k : KnowerState) : Type 0 where
  pub landings : AreLandings board h k.landings
  pub tolds : AreTold (length board.masters) k
  pub masters : length k.known ≡ length board.masters
  pub authors : (master : ℕ) → master < length board.masters → length (known_at k.known master) ≡ length board.masters
  pub known : (master author : ℕ) → master < length board.masters → author < length board.masters → number (known_at k.known master) author ≡ (clocks_of board h).known master author
  pub noted : (o : OpId) → is_some (value_of o k.starts) ≡ is_some ((clocks_of board h).start o)
  pub starts : (o : OpId) (author : ℕ) → author < length board.masters → number (numbers_of o k.starts) author ≡ number_in ((clocks_of board h).start o) author
  pub many : length k.told ≡ length h
  pub told : (place author : ℕ) → author < length board.masters → number (list_in (flat (slice_get k.told place))) author ≡ (clocks_of board h).told place author
