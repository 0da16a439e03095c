-- What may be known behind a poll at most.
use Rattle.std.specs.Prelude.{◌≡◌, ℕ, ◌<◌, List, length}
use Rattle.pci_command.specs.declared.op_id.OpId.{OpId}
use Rattle.board_model.specs.declared.board.Board.{Board}
use Rattle.safe_model.specs.Clocks.{Table}
use Rattle.safe_model.specs.largest.Tests.{most_known}
use Rattle.board_writes.specs.Rows.{number}

-- these are what may be known behind a poll at most, of each master of the board
pub record IsMost (board : Board) (table : Table) (p : OpId) (numbers : List ℕ) : Type 0 where
  pub all : length numbers ≡ length board.masters
  pub each : (other : ℕ) → other < length board.masters → number numbers other ≡ most_known board table p other
