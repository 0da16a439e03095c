-- What is kept of each dword, and what an index of a board is.
use Rattle.std.specs.Prelude.{◌≡◌, ℕ, ◌<◌, ◌^◌, ◌-◌, List, [], ◌∷◌, Option, Some, None, if◌then◌else◌}
use Rattle.pci_command.specs.declared.op_id.OpId.{OpId}
use Rattle.board_model.specs.declared.board.Board.{Board}
use Rattle.board_model.specs.Ways.{Dword}
use Rattle.history_model.specs.Knowledge.{is_write, words_named}
use Rattle.audit_clocks.specs.Tables.{list_in, value_of, found_in, dword}
use Rattle.board_model.specs.declared.word.Word.{Word}
use Rattle.safe_model.specs.Raisers.{same_dword}
use Rattle.untagged_check.specs.declared.index.entry.Write.{Write}
use Rattle.untagged_check.specs.index.Entries.{Listing, first_in, pushed}
use Rattle.untagged_check.specs.index.Pending.{first_pending}

-- what is kept of the dword
abbrev pub listings_of : Word → List (Word × List Listing) → List Listing
listings_of word entries = list_in (found_in word entries)

-- a search among what is kept finds the first write that was pending
pub record Indexes (board : Board) (landed : List (OpId × ℕ)) (index : List (Word × List Listing)) : Type 0 where
  pub finds : (word : Word) (events : ℕ) (numbers : List ℕ) → events < 2 ^ 64
      → first_in events numbers (listings_of word index) ≡ first_pending board landed word events numbers

-- How it is made.

-- before how many events a write landed whole; the greatest number of 64 bits where it did not
abbrev pub events_in : Option ℕ → ℕ
events_in None = 2 ^ 64 - 1
events_in (Some events) = events

-- an operation of the board and when it landed
abbrev pub write_of : List (OpId × ℕ) → OpId → Write
write_of landed o = record { op = o; landed = events_in (value_of o landed) }

-- the dwords that an operation writes
abbrev pub dwords_written : Board → OpId → List Dword
dwords_written board o = if is_write board o then words_named board o else []

-- the list of a dword after a write of these
abbrev pub written : Word → Write → List Dword → List Listing → List Listing
written word write [] listings = listings
written word write (d ∷ ds) listings =
    written word write ds (if same_dword (dword word) d then pushed write listings else listings)

-- the list of each dword has the write, as often as it is one of these
pub record Writes (write : Write) (ds : List Dword) (old new : List (Word × List Listing)) : Type 0 where
  pub each : (word : Word) → listings_of word new ≡ written word write ds (listings_of word old)

-- the list of a dword after these operations
abbrev pub listed : Board → List (OpId × ℕ) → Word → List OpId → List Listing → List Listing
listed board landed word [] listings = listings
listed board landed word (o ∷ ops) listings =
    listed board landed word ops (written word (write_of landed o) (dwords_written board o) listings)

-- the list of each dword has the writes of these operations
pub record Lists (board : Board) (landed : List (OpId × ℕ)) (ops : List OpId) (old new : List (Word × List Listing)) : Type 0 where
  pub each : (word : Word) → listings_of word new ≡ listed board landed word ops (listings_of word old)
