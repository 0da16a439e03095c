use Rattle.board_roundtrip.proofs.lines.Laws.{master_law, op_law}
use Rattle.board_roundtrip.proofs.lines.masters_are_read.Goals as goal

pub returns-clause-master : goal.returns-clause-master
returns-clause-master c = master_law

pub returns-clause-op : goal.returns-clause-op
returns-clause-op c = op_law
