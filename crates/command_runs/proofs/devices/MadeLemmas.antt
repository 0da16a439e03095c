-- A board that a device text makes.
use Rattle.std.proofs.Common.{◌≡◌, Result, Ok, Err, refl}
use Rattle.board_model.specs.declared.board.Board.{Board}
use Rattle.dma_agents.specs.declared.fault.MakeFault.{MakeFault}
use Rattle.dma_agents.specs.Made.{Made, IsMade}

pub made_of : (board : Board) (reading : Result Made MakeFault) → IsMade board reading → (made : Made) × ((reading ≡ Ok made) × (made.board ≡ board))
made_of board (Ok made) is = (made, (refl, is))
made_of board (Err fault) is = absurd is
