-- Why a search along the programs of the authors finds what it looks for.
use Rattle.std.specs.Prelude.{◌≡◌, ◌<◌, ◌≤◌, ℕ, Bool, true, false, List, length, Option, Some, None, ◌||◌, max, min, slice_get}
use Rattle.pci_command.specs.declared.op_id.OpId.{OpId}
use Rattle.pci_command.specs.Same.{same_op}
use Rattle.board_model.specs.declared.word.Word.{Word}
use Rattle.audit_clocks.specs.Tables.{writes_in}
use Rattle.audit_clocks.specs.Tracks.{in_order_at, place}
use Rattle.audit_text.specs.declared.readings.Reading.{Reading}
use Rattle.audit_text.specs.Notes.{Notes, word_of}
use Rattle.audit_text.specs.Found.{knows_by, landed_whole, shows_it}

-- all that landed in the dword of a reading
abbrev pub writes_at : Notes → Reading → List OpId
writes_at notes reading = writes_in (word_of reading.target reading.space reading.address) notes.landings.landed

-- a write is there, and the read knows of it
abbrev pub is_known : Notes → OpId → Option OpId → Bool
is_known notes r None = false
is_known notes r (Some w) = knows_by notes w r

-- an operation is the write or knows of it, or is not there
abbrev pub tells_of : Notes → OpId → Option OpId → Bool
tells_of notes w None = true
tells_of notes w (Some v) = same_op v w || knows_by notes w v

-- an operation is there, and landed whole before the reading
abbrev pub is_whole : Notes → Reading → Option OpId → Bool
is_whole notes reading None = false
is_whole notes reading (Some v) = landed_whole notes reading v

-- an operation that knows of a write knows of the earlier ones of its author
abbrev pub KnowsEarlier : Notes → OpId → List OpId → Type 0
KnowsEarlier notes r writes = (i j : ℕ) → in_order_at (slice_get writes i) (slice_get writes j) ≡ true → is_known notes r (slice_get writes j) ≡ true → is_known notes r (slice_get writes i) ≡ true

-- so it is in every dword
abbrev pub KnowsAlways : Notes → OpId → Type 0
KnowsAlways notes r = (word : Word) → KnowsEarlier notes r (writes_in word notes.landings.landed)

-- where an operation tells of a write, the later ones of its author do
abbrev pub TellsLater : Notes → OpId → List OpId → Type 0
TellsLater notes w writes = (i j : ℕ) → in_order_at (slice_get writes i) (slice_get writes j) ≡ true → tells_of notes w (slice_get writes i) ≡ true → tells_of notes w (slice_get writes j) ≡ true

-- so it is in every dword
abbrev pub TellsAlways : Notes → OpId → Type 0
TellsAlways notes w = (word : Word) → TellsLater notes w (writes_in word notes.landings.landed)

-- so it is of every operation, and of every write of which a data phase landed
pub record Searchable (notes : Notes) : Type 0 where
  pub known : (r : OpId) → KnowsAlways notes r
  pub told : (word : Word) (i : ℕ) (w : OpId) → slice_get (writes_in word notes.landings.landed) i ≡ Some w → TellsAlways notes w

-- rising places
abbrev pub AreRising : List ℕ → Type 0
AreRising places = (a b : ℕ) → a < b → b < length places → place places a < place places b

-- no place that passes stands behind one that fails
abbrev pub FallsAlong : (ℕ → Bool) → List ℕ → Type 0
FallsAlong test places = (a b : ℕ) → a ≤ b → b < length places → test (place places b) ≡ true → test (place places a) ≡ true

-- the greatest place of a track that passes
pub record IsLastOn (test : ℕ → Bool) (places : List ℕ) (at : ℕ) : Type 0 where
  pub passes : test at ≡ true
  pub last : (a : ℕ) → a < length places → test (place places a) ≡ true → place places a ≤ at

-- that place, or that none passes
abbrev pub LastOn : (ℕ → Bool) → List ℕ → Option ℕ → Type 0
LastOn test places None = (a : ℕ) → a < length places → test (place places a) ≡ false
LastOn test places (Some at) = IsLastOn test places at

-- the least place of a track that passes
pub record IsFirstOn (test : ℕ → Bool) (places : List ℕ) (at : ℕ) : Type 0 where
  pub index : ℕ
  pub within : index < length places
  pub is : place places index ≡ at
  pub passes : test at ≡ true
  pub first : (a : ℕ) → a < length places → test (place places a) ≡ true → at ≤ place places a

-- that place, or that none passes
abbrev pub FirstOn : (ℕ → Bool) → List ℕ → Option ℕ → Type 0
FirstOn test places None = (a : ℕ) → a < length places → test (place places a) ≡ false
FirstOn test places (Some at) = IsFirstOn test places at

-- the greater, and the less, of two places that may not be there
abbrev pub later : Option ℕ → Option ℕ → Option ℕ
later None other = other
later (Some a) None = Some a
later (Some a) (Some b) = Some (max a b)

-- the same of the less
abbrev pub earlier : Option ℕ → Option ℕ → Option ℕ
earlier None other = other
earlier (Some a) None = Some a
earlier (Some a) (Some b) = Some (min a b)

-- an operation is there, landed whole before the reading, and is the write or knows of it
abbrev pub shows_at : Notes → Reading → OpId → Option OpId → Bool
shows_at notes reading w None = false
shows_at notes reading w (Some v) = shows_it notes reading w v
