use Rattle.board_roundtrip.proofs.lines.Laws.{bridge_law}
use Rattle.board_roundtrip.proofs.lines.bridges_are_read.Goals as goal

pub returns : goal.returns
returns c = bridge_law
