use Rattle.board_writes.proofs.TellLemmas.{enough}
use Rattle.board_writes.proofs.polls.stays.are_enough.Goals as goal

pub returns-then-count-ge2 : goal.returns-then-count-ge2
returns-then-count-ge2 c = λ yes. enough c.args.table.now c.args.poll c.args.found.now _ _ c.if-count-ge2.true (c.tell_nothing.ensures yes)
