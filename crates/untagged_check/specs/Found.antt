-- The stale reads, as they are found: by what each master knows as it ends a read, and by when each write landed.
use Rattle.std.specs.Prelude.{◌≡◌, ℕ, ◌-◌, Bool, List, [], ◌∷◌, Option, Some, None, not, ◌&&◌, slice_get}
use Rattle.std.specs.List.{find}
use Rattle.pci_command.specs.declared.op_id.OpId.{OpId}
use Rattle.board_model.specs.declared.board.Board.{Board}
use Rattle.history_model.specs.declared.event.Event.{Event}
use Rattle.history_model.specs.Knowledge.{is_write}
use Rattle.board_model.specs.declared.word.Word.{Word}
use Rattle.audit_clocks.specs.Tables.{value_of}
use Rattle.audit_landings.specs.Hits.{whole_at}
use Rattle.safe_model.specs.Ops.{ops_by}
use Rattle.law_untagged.specs.Stale.{StaleRead}
use Rattle.untagged_run.specs.declared.got.Got.{Got}
use Rattle.untagged_check.specs.index.Entries.{Listing}
use Rattle.untagged_check.specs.index.Kept.{Indexes}
use Rattle.untagged_check.specs.index.Pending.{is_before, reaches_in, names}

-- a write of the dword that had not landed whole before so many events, and that these numbers reach
abbrev pub is_unlanded : Board → List Event → Word → ℕ → List ℕ → OpId → Bool
is_unlanded board h word events numbers w = is_write board w && names board word w && not (is_before events (whole_at h w)) && reaches_in numbers w

-- the first of them, by master, then by its place in the program
abbrev pub first_unlanded : Board → List Event → Word → ℕ → List ℕ → Option OpId
first_unlanded board h word events numbers = find (is_unlanded board h word events numbers) (ops_by 0 board.masters)

-- an index of the board's writes by when they landed in a run
pub record IndexesRun (board : Board) (h : List Event) (index : List (Word × List Listing)) : Type 0 where
  pub landed : List (OpId × ℕ)
  pub whole : (w : OpId) → value_of w landed ≡ whole_at h w
  pub indexes : Indexes board landed index

-- the read with this write, if one was found
abbrev pub found_by : OpId → ℕ → Option OpId → List StaleRead
found_by read event None = []
found_by read event (Some w) = record { read = read; write = w; event = event } ∷ []

-- of a read that got this, and whose master knows so much
abbrev pub found_with : Board → List Event → OpId → List ℕ → Option Got → List StaleRead
found_with board h read numbers None = []
found_with board h read numbers (Some got) = found_by read got.event (first_unlanded board h got.word (got.event - 1) numbers)

-- the same where the master of the read is one of the board
abbrev pub found_at : Board → List Event → OpId → Option Got → Option (List ℕ) → List StaleRead
found_at board h read got None = []
found_at board h read got (Some numbers) = found_with board h read numbers got

-- of what an event ended
abbrev pub found_ending : Board → List Event → List (List ℕ) → Option Got → Option OpId → List StaleRead
found_ending board h known got None = []
found_ending board h known got (Some read) = found_at board h read got (slice_get known read.master)
