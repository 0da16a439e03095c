use Rattle.std.proofs.Common.{drop}
use Rattle.safe_model.specs.Ops.{ops_by}
use Rattle.board_writes.specs.Rows.{table_of}
use Rattle.safe_said.proofs.LineLemmas.{SaidTo}
use Rattle.safe_said.proofs.walk.list_masters.Given as goal

-- the lines of the masters so far
abbrev pub invariant-loop-number : goal.invariant-loop-number
invariant-loop-number l =
    SaidTo l.looks.tree.now (table_of l.looks.table.now) (ops_by 0 l.looks.tree.now.masters) (ops_by l.number (drop l.number l.looks.tree.now.masters)) l.members l.initial.list.items l.list.items
