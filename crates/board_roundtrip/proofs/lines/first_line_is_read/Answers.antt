use Rattle.board_roundtrip.proofs.lines.Laws.{first_law, first_allowed}
use Rattle.board_roundtrip.proofs.lines.first_line_is_read.Goals as goal

pub returns-clause-told : goal.returns-clause-told
returns-clause-told c = first_law

pub returns-clause-allowed : goal.returns-clause-allowed
returns-clause-allowed c = first_allowed
