-- The largest consistent table of a board.
use Rattle.std.specs.Prelude.{◌≡◌, ◌≤◌, ℕ, true}
use Rattle.pci_command.specs.declared.op_id.OpId.{OpId}
use Rattle.board_model.specs.declared.board.Board.{Board}
use Rattle.board_model.specs.Requests.{op_of}
use Rattle.safe_model.specs.Clocks.{Table, is_poll, IsConsistent}
use Rattle.safe_model.specs.largest.Tests.{program_of}

-- no number is above that of the operations of the program that it is of
abbrev pub IsWithin : Board → Table → Type 0
IsWithin board table = (master index other : ℕ) → table master index other ≤ program_of board other

-- consistent, and of each poll as much as in any such table
pub record IsLargest (board : Board) (table : Table) : Type 0 where
  pub consistent : IsConsistent board table
  pub within : IsWithin board table
  pub largest : (t : Table) → IsConsistent board t → IsWithin board t → (p : OpId) → is_poll (op_of board p) ≡ true
      → (other : ℕ) → t p.master p.index other ≤ table p.master p.index other
