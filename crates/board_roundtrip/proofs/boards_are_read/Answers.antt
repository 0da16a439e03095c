use Rattle.board_roundtrip.proofs.BoardLemmas.{board_law}
use Rattle.board_roundtrip.proofs.boards_are_read.Goals as goal

pub returns : goal.returns
returns c = board_law
