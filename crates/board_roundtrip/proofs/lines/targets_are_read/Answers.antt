use Rattle.board_roundtrip.proofs.lines.Laws.{target_law, id_law, stall_law, burst_law}
use Rattle.board_roundtrip.proofs.lines.targets_are_read.Goals as goal

pub returns-clause-target : goal.returns-clause-target
returns-clause-target c = target_law

pub returns-clause-id : goal.returns-clause-id
returns-clause-id c = id_law

pub returns-clause-stall : goal.returns-clause-stall
returns-clause-stall c = stall_law

pub returns-clause-burst : goal.returns-clause-burst
returns-clause-burst c = burst_law
