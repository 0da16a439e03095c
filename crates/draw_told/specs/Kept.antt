-- What the program keeps of where operations were read and landed, and of which events are keys.
use Rattle.std.specs.Prelude.{◌≡◌, ◌<◌, ◌≤◌, ℕ, zero, suc, ◌+◌, ◌*◌, Bool, false, ◌&&◌, ◌||◌, ◌==◌, nat_lt, List, [], ◌∷◌, ◌++◌, length, Option, Some, None, is_some, if◌then◌else◌, slice_get}
use Rattle.std.specs.Option.{option_map_or}
use Rattle.pci_command.specs.declared.command.Space.{Space}
use Rattle.pci_command.specs.declared.op_id.OpId.{OpId}
use Rattle.pci_command.specs.declared.request.Request.{Request}
use Rattle.pci_command.specs.Command.{space_of}
use Rattle.pci_command.specs.Same.{same_op}
use Rattle.board_model.specs.declared.bridge.Place.{Place}
use Rattle.board_model.specs.declared.bridge.Place.TheVariants.{Target, Header, Lane, Nobody}
use Rattle.board_model.specs.declared.board.Board.{Board}
use Rattle.board_model.specs.Requests.{request_of}
use Rattle.board_model.specs.Ways.{address_in}
use Rattle.history_model.specs.declared.event.Step.{Step}
use Rattle.history_model.specs.declared.event.Event.{Event}
use Rattle.history_model.specs.declared.event.Event.TheVariants.{Act, Arrive}
use Rattle.history_model.specs.Words.{through, without, brings}
use Rattle.history_model.specs.Knowledge.{is_land_of}
use Rattle.board_model.specs.declared.word.Word.{Word}
use Rattle.audit_clocks.specs.Tables.{value_of, list_in, same_word, dword}
use Rattle.audit_landings.specs.Hits.{few_of, count_of, lands, Parted}
use Rattle.draw_told.specs.declared.touches.Touch.{Touch}
use Rattle.draw_told.specs.Told.{is_read_of, read_event, land_event, landing_event, spans_of, is_loud, is_key}
use Rattle.draw_told.specs.declared.told.Span.{Span}
use Rattle.law_audit.specs.Audit.{Finding, findings}
use Rattle.history_model.specs.Runs.{history_of}

-- the number, 0 where there is none
abbrev pub or_zero : Option ℕ → ℕ
or_zero None = 0
or_zero (Some n) = n

-- the number that is kept for an operation; 0 where none is
abbrev pub number_of : OpId → List (OpId × ℕ) → ℕ
number_of o entries = or_zero (value_of o entries)

-- where each operation was read, and where it landed
pub record EndTables : Type 0 where
  pub reads : List (OpId × ℕ)
  pub lands : List (OpId × ℕ)

-- the tables tell that of every operation
pub record TellsEnds (h : List Event) (ends : EndTables) : Type 0 where
  pub reads : (o : OpId) → number_of o ends.reads ≡ read_event h o
  pub lands : (o : OpId) → number_of o ends.lands ≡ land_event h o

-- event n happens
pub record EndsNext (n : ℕ) (e : Event) (old new : EndTables) : Type 0 where
  pub reads : (q : OpId) → number_of q new.reads ≡ (if is_read_of q e then n else number_of q old.reads)
  pub lands : (q : OpId) → number_of q new.lands ≡ (if is_land_of q e && number_of q old.lands == 0 then n else number_of q old.lands)

-- event n reads the operation at a target
pub record ReadsNow (n : ℕ) (o : OpId) (old new : EndTables) : Type 0 where
  pub lands : new.lands ≡ old.lands
  pub each : (q : OpId) → number_of q new.reads ≡ (if same_op o q then n else number_of q old.reads)

-- event n lands what was left of the operation
pub record LandsNow (n : ℕ) (o : OpId) (old new : EndTables) : Type 0 where
  pub reads : new.reads ≡ old.reads
  pub each : (q : OpId) → number_of q new.lands ≡ (if same_op o q && number_of q old.lands == 0 then n else number_of q old.lands)

-- The data phases of each write that landed.

-- those of an operation; none where nothing is kept
abbrev pub touches_in : OpId → List (OpId × List Touch) → List Touch
touches_in o entries = list_in (value_of o entries)

-- the operation's list has these behind those before, and each other has its own
pub record Adds (old new : List (OpId × List Touch)) (more : OpId → List Touch) : Type 0 where
  pub each : (o : OpId) → touches_in o new ≡ touches_in o old ++ more o

-- so many data phases from an address on, four bytes apart, in event n
abbrev pub touches_from : ℕ → ℕ → Space → ℕ → ℕ → List Touch
touches_from n target space at zero = []
touches_from n target space at (suc count) =
    touches_from n target space at count ++ record { word = record { target = target; space = space; address = at + 4 * count }; event = n } ∷ []

-- those that a step brings of a request, of which so many went through before
abbrev pub request_touches : ℕ → ℕ → Step → ℕ → Request → List Touch
request_touches n gone step target request =
    touches_from n target (space_of request.command) (address_in (space_of request.command) (without gone request).address) (length (brings step (without gone request).phases))

-- the same where the request is there
abbrev pub found_touches : ℕ → ℕ → Step → ℕ → Option Request → List Touch
found_touches n gone step target None = []
found_touches n gone step target (Some request) = request_touches n gone step target request

-- the same of a step at a place: only a target takes data phases
abbrev pub place_touches : Board → ℕ → ℕ → ℕ → OpId → Step → Place → List Touch
place_touches board n gone on o step (Target target) = if lands step then found_touches n gone step target (request_of board o on) else []
place_touches board n gone on o step (Header bus) = []
place_touches board n gone on o step (Lane lane) = []
place_touches board n gone on o step Nobody = []

-- the same of an event, for each operation
abbrev pub event_touches : Board → ℕ → List (OpId × ℕ) → Event → OpId → List Touch
event_touches board n gone (Act on by p step place) o = if same_op p o then place_touches board n (few_of p gone) on p step place else []
event_touches board n gone (Arrive lane mark) o = []

-- what is kept of the data phases of writes
pub record TouchTables : Type 0 where
  -- how many data phases of each write went through
  pub gone : List (OpId × ℕ)
  pub writes : List (OpId × List Touch)

-- event n happens
pub record Touches (board : Board) (n : ℕ) (e : Event) (old new : TouchTables) : Type 0 where
  pub writes : Adds old.writes new.writes (event_touches board n old.gone e)
  pub gone : Parted e old.gone new.gone

-- the last of these before event n in the dword, or else the other
abbrev pub last_before : Word → ℕ → List Touch → ℕ → ℕ
last_before word n [] found = found
last_before word n (touch ∷ touches) found =
    last_before word n touches (if same_word touch.word word && nat_lt touch.event n then touch.event else found)

-- the tables tell the last landing of each write in each dword
pub record TellsTouches (board : Board) (h : List Event) (touches : TouchTables) : Type 0 where
  pub gone : (o : OpId) → count_of o touches.gone ≡ through h o
  pub few : (o : OpId) → through h o ≤ 255 * length h
  pub landed : (o : OpId) (word : Word) (n : ℕ) → last_before word n (touches_in o touches.writes) 0 ≡ landing_event board h n o (dword word)

-- Keys.

-- the event is a key; one that is not kept is none
abbrev pub key_at : List Bool → ℕ → Bool
key_at keys n = option_map_or (λ key. key) (slice_get keys n) false

-- the events that pass became keys, and no other did; there is no event 0
pub record Marks (old new : List Bool) (test : ℕ → Bool) : Type 0 where
  pub all : length new ≡ length old
  pub each : (n : ℕ) → 0 < n → n < length old → key_at new n ≡ (key_at old n || test n)

-- the operations that pass became loud, and no other did
pub record Louder (old new : List (OpId × Bool)) (test : OpId → Bool) : Type 0 where
  pub each : (o : OpId) → is_some (value_of o new) ≡ (is_some (value_of o old) || test o)

-- What the lines tell.
pub record ToldTables : Type 0 where
  pub found : List Finding
  pub spans : List Span
  pub loud : List (OpId × Bool)
  pub keys : List Bool

-- the tables tell what the audit of a run of these events does
pub record TellsTold (board : Board) (events : List Event) (told : ToldTables) : Type 0 where
  pub found : told.found ≡ findings board (history_of events)
  pub spans : told.spans ≡ spans_of board events
  pub loud : (o : OpId) → is_some (value_of o told.loud) ≡ is_loud board events o
  pub keys : (n : ℕ) → 0 < n → n ≤ length events → key_at told.keys n ≡ is_key board events n
