-- Polls that are never met.
use Rattle.std.specs.Prelude.{ℕ, ◌⊎◌}
use Rattle.pci_command.specs.declared.op_id.OpId.{OpId}
use Rattle.board_model.specs.declared.op.Want.{Want}
use Rattle.board_model.specs.declared.board.Board.{Board}
use Rattle.board_model.specs.Ways.{Dword}
use Rattle.safe_model.specs.Raisers.{Raises, Firm}
use Rattle.safe_model.specs.Clocks.{Table, IsBefore, LeftOut, OpensOut, Awaits}

-- a poll that is firm and not met by what its word opens as, and each of whose raisers is left out or comes before
-- itself, so that it is not reached
pub record IsVain (board : Board) (table : Table) (p : OpId) (want : Want) : Type 0 where
  pub awaits : Awaits board p want
  pub word : Dword
  pub firm : Firm board p want word
  pub opens : OpensOut board table p want word
  pub raisers : (f : OpId) → Raises board want word f → LeftOut board table p word f ⊎ IsBefore board table f f
