use Rattle.board_roundtrip.proofs.lines.Laws.{claim_law, abort_law, opening_law}
use Rattle.board_roundtrip.proofs.lines.ranges_are_read.Goals as goal

pub returns-clause-claim : goal.returns-clause-claim
returns-clause-claim c = claim_law

pub returns-clause-abort : goal.returns-clause-abort
returns-clause-abort c = abort_law

pub returns-clause-opening : goal.returns-clause-opening
returns-clause-opening c = opening_law
