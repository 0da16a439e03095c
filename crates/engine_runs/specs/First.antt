-- Where the bridges of a board hang, by the places of its buses.
use Rattle.std.specs.Prelude.{◌≡◌, ℕ, ◌+◌, ◌<◌, List, length, Some, slice_get}
use Rattle.board_model.specs.declared.board.Board.{Board}
use Rattle.board_model.specs.Ways.{primary_of}
use Rattle.engine_segments.specs.First.{buses_of, lanes_to, up_from}
use Rattle.bus_core.specs.Bus.{HasPlace}
use Rattle.engine_runs.specs.declared.settling.Above.{Above}

-- the bridge to the bus of this place hangs below an earlier bus, at this port
pub record IsAboveOf (board : Board) (place : ℕ) (above : Above) : Type 0 where
  pub bus : ℕ
  pub bus_is : slice_get (buses_of board) place ≡ Some bus
  pub earlier : above.worker < place
  pub primary : slice_get (buses_of board) above.worker ≡ Some (primary_of board bus)
  pub up : slice_get (lanes_to board (primary_of board bus)) above.port ≡ Some (up_from bus)

-- so it is of all buses but the first
pub record AreAboveOf (board : Board) (above : List Above) : Type 0 where
  pub each : (k : ℕ) (up : Above) → slice_get above k ≡ Some up → IsAboveOf board (k + 1) up
  pub many : length (buses_of board) ≡ length above + 1

-- each bus but the first has a primary bus before it, on which its lane up ends
pub record AreLinked (board : Board) : Type 0 where
  pub some : 0 < length (buses_of board)
  pub primary : (k bus : ℕ) → slice_get (buses_of board) (k + 1) ≡ Some bus → HasPlace (buses_of board) (primary_of board bus)
  pub earlier : (k j bus : ℕ) → slice_get (buses_of board) (k + 1) ≡ Some bus → slice_get (buses_of board) j ≡ Some (primary_of board bus) → j < k + 1
  pub up : (k bus : ℕ) → slice_get (buses_of board) (k + 1) ≡ Some bus → HasPlace (lanes_to board (primary_of board bus)) (up_from bus)
