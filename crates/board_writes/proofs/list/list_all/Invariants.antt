use Rattle.board_writes.proofs.ListLemmas.{ListsTo}
use Rattle.board_writes.proofs.list.list_all.Given as goal

-- the polls of the programs so far
abbrev pub invariant-loop-number : goal.invariant-loop-number
invariant-loop-number l = ListsTo l.tree l.ops.items l.number
