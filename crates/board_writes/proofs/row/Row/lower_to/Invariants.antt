use Rattle.board_writes.proofs.FallLemmas.{FallsTo}
use Rattle.board_writes.proofs.row.Row.lower_to.Given as goal

-- the first numbers fell
abbrev pub invariant-loop-master : goal.invariant-loop-master
invariant-loop-master l = FallsTo l.most l.initial.self-inside.numbers.items l.self-inside.numbers.items l.fell l.master
