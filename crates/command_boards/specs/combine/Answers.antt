-- combine: what is written for a board text.
use Rattle.std.specs.Prelude.{◌≡◌, ℕ, List}
use Rattle.board_model.specs.declared.board.Board.{Board}
use Rattle.board_printer.specs.Boards.{board_text}
use Rattle.write_combining.specs.Combined.{combined}
use Rattle.write_combining.specs.Kept.{KeepsBoard}
use Rattle.program_input.specs.Boards.{ReadsBoard}

-- the canonical text of the board with each program joined, which keeps what the board brings, and is read back as
-- this valid board
pub record CombinesTo (board : Board) (text : List ℕ) : Type 0 where
  pub written : text ≡ board_text (combined board)
  pub keeps : KeepsBoard board (combined board)
  pub read_back : ReadsBoard text (combined board)

-- the input is the text of a valid board, and this is written of it
pub record AnswersCombine (input text : List ℕ) : Type 0 where
  pub board : Board
  pub reads : ReadsBoard input board
  pub combines : CombinesTo board text
