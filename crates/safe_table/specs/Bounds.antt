-- Tables that fall from the top to the largest consistent one.
use Rattle.std.specs.Prelude.{◌≡◌, ℕ, Bool, true, false, ◌<◌, ◌≤◌, List, slice_get, Option, Some}
use Rattle.pci_command.specs.declared.op_id.OpId.{OpId}
use Rattle.board_model.specs.declared.board.Board.{Board}
use Rattle.board_model.specs.Requests.{op_of}
use Rattle.safe_model.specs.Clocks.{Table, is_poll, at_place, IsConsistent}
use Rattle.safe_model.specs.largest.Tests.{most_known}
use Rattle.safe_model.specs.largest.Largest.{IsWithin, IsLargest}
use Rattle.board_writes.specs.Rows.{ProgramRows, table_of, KeepsPolls, Rises, Closes}
use Rattle.board_writes.specs.Falls.{sum_all, LowersTo}
use Rattle.board_writes.specs.Most.{IsMost}
use Rattle.board_model.specs.declared.word.Word.{Word}
use Rattle.board_writes.specs.declared.writers.write.WordWrite.{WordWrite}
use Rattle.board_writes.specs.Polls.{PollFacts, AreKept}
use Rattle.board_writes.specs.Listed.{ListsPolls}

-- and these its polls
pub record AreOf (board : Board) (writers : List (Word × List WordWrite)) (polls : List (List (Option PollFacts))) (ops : List OpId) : Type 0 where
  pub kept : AreKept board writers polls
  pub listed : ListsPolls board ops

-- no consistent table is above the table, it counts no more operations than there are, rises along each program, and
-- counts with an operation all that it comes after
pub record BoundsAll (board : Board) (programs : List ProgramRows) : Type 0 where
  pub polls : KeepsPolls board programs
  pub rises : Rises board programs
  pub closes : Closes board programs
  pub within : IsWithin board (table_of programs)
  pub above : (t : Table) → IsConsistent board t → IsWithin board t → (master index : ℕ)
      → is_poll (op_of board (at_place master index)) ≡ true → (other : ℕ) → t master index other ≤ table_of programs master index other

-- numbers fell, or all is the same
pub record Fell (old new : List ProgramRows) (fell : Bool) : Type 0 where
  pub some : fell ≡ true → sum_all new < sum_all old
  pub none : fell ≡ false → new ≡ old

-- a poll has at most what may be known behind it
abbrev pub Passes : Board → Table → OpId → Type 0
Passes board table p = (other : ℕ) → table p.master p.index other ≤ most_known board table p other

-- the numbers of a poll fell to what may be known behind it at most
pub record LowersPoll (board : Board) (p : OpId) (old new : List ProgramRows) (fell : Bool) : Type 0 where
  pub numbers : List ℕ
  pub most : IsMost board (table_of old) p numbers
  pub lowers : LowersTo p numbers old new fell

-- those of the first so many of these polls
pub record LowersPolls (board : Board) (ops : List OpId) (count : ℕ) (old new : List ProgramRows) (fell : Bool) : Type 0 where
  pub bounds : BoundsAll board new
  pub passes : fell ≡ false → (k : ℕ) → k < count → (p : OpId) → slice_get ops k ≡ Some p → Passes board (table_of old) p

-- the table is the largest consistent one
pub record Largest (board : Board) (programs : List ProgramRows) : Type 0 where
  pub largest : IsLargest board (table_of programs)
  pub polls : KeepsPolls board programs
