-- tree: what is written for a board text, or for one of devices on a board.
use Rattle.std.specs.Prelude.{ℕ, ◌≡◌, List}
use Rattle.board_model.specs.declared.board.Board.{Board}
use Rattle.board_outline.specs.Outline.{outline_text}
use Rattle.program_input.specs.Protocols.{ReadsProtocol}

-- the input is the text of a valid board, or of devices that make one, and the outline of this board is written
pub record AnswersTree (input text : List ℕ) : Type 0 where
  pub board : Board
  pub reads : ReadsProtocol input board
  pub written : text ≡ outline_text board
