-- headers: what is written for a board text.
use Rattle.std.specs.Prelude.{ℕ, ◌≡◌, List, Ok, Contains}
use Rattle.board_model.specs.declared.bridge.Bridge.{Bridge}
use Rattle.board_model.specs.declared.board.Board.{Board}
use Rattle.board_model.specs.HeaderBytes.{header_bytes}
use Rattle.board_headers.specs.Windows.{reading_of, windows_in}
use Rattle.board_printer.specs.headers.Headers.{headers_text}
use Rattle.program_input.specs.Boards.{ReadsBoard}

-- the input is the text of a valid board, and its headers are written
pub record AnswersHeaders (input text : List ℕ) : Type 0 where
  pub board : Board
  pub reads : ReadsBoard input board
  pub written : text ≡ headers_text board
  -- the bytes of each header are read as the buses, the windows and the master abort mode of its bridge
  pub read_back : (bridge : Bridge) → Contains board.bridges bridge → reading_of (header_bytes bridge) ≡ Ok (windows_in bridge)
