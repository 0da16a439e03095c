use Rattle.board_roundtrip.proofs.lines.Laws.{discard_law, drop_law}
use Rattle.board_roundtrip.proofs.lines.plans_are_read.Goals as goal

pub returns-clause-discard : goal.returns-clause-discard
returns-clause-discard c = discard_law

pub returns-clause-drop : goal.returns-clause-drop
returns-clause-drop c = drop_law
