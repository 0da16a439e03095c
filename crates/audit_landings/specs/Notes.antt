-- What is noted of what landed in each dword, and that it stands for a history.
use Rattle.std.specs.Prelude.{◌≡◌, ◌≤◌, ◌*◌, ℕ, List, [], ◌∷◌, length, map}
use Rattle.pci_command.specs.declared.op_id.OpId.{OpId}
use Rattle.board_model.specs.declared.board.Board.{Board}
use Rattle.history_model.specs.declared.event.Event.{Event}
use Rattle.history_model.specs.Words.{landed, through}
use Rattle.board_model.specs.declared.word.Word.{Word}
use Rattle.audit_clocks.specs.Tables.{value_of, writes_in, dword}
use Rattle.audit_landings.specs.declared.told.Told.{Told}
use Rattle.audit_landings.specs.Hits.{count_of, op_of_landing, whole_at}
use Rattle.audit_landings.specs.Told.{ToldsFor}

-- what is noted of the landings of a run
pub record LandingNotes : Type 0 where
  -- how many data phases of each write went through
  pub gone : List (OpId × ℕ)
  -- the writes of the data phases that landed, by dword
  pub landed : List (Word × List OpId)
  -- of each write that landed whole, how many events there were before
  pub whole : List (OpId × ℕ)
  -- what the landings of each dword tell that were looked at
  pub tolds : List (Word × Told)

-- before the first event
abbrev pub no_landings : LandingNotes
no_landings = record { gone = []; landed = []; whole = []; tolds = [] }

-- what was noted stands for these events, the latest first
pub record AreLandings (board : Board) (h : List Event) (notes : LandingNotes) : Type 0 where
  pub gone : (o : OpId) → count_of o notes.gone ≡ through h o
  pub few : (o : OpId) → through h o ≤ 255 * length h
  pub landed : (word : Word) → writes_in word notes.landed ≡ map op_of_landing (landed board h (dword word))
  pub whole : (o : OpId) → value_of o notes.whole ≡ whole_at h o

-- one more event, after so many: what stood for the history before stands for the longer one, and what was told stays told
pub record Happened (board : Board) (index : ℕ) (e : Event) (old new : LandingNotes) : Type 0 where
  pub stands : (h : List Event) → length h ≡ index → AreLandings board h old → AreLandings board (e ∷ h) new
  pub told : (masters : ℕ) (starts : List (OpId × List ℕ)) → ToldsFor masters old.whole starts old.landed old.tolds → ToldsFor masters new.whole starts new.landed new.tolds

-- the same landings: no more than what is kept of what they tell differs
pub record SameLandings (old new : LandingNotes) : Type 0 where
  pub gone : new.gone ≡ old.gone
  pub landed : new.landed ≡ old.landed
  pub whole : new.whole ≡ old.whole
