use Rattle.std.proofs.Common.{drop}
use Rattle.safe_model.specs.Ops.{ops_from}
use Rattle.board_writes.specs.Rows.{table_of}
use Rattle.safe_said.proofs.LineLemmas.{SaidTo}
use Rattle.safe_said.proofs.walk.list_program.Given as goal

-- the lines of the operations so far
abbrev pub invariant-loop-place : goal.invariant-loop-place
invariant-loop-place l =
    SaidTo l.looks.tree.now (table_of l.looks.table.now) (ops_from l.master 0 l.ops) (ops_from l.master l.place (drop l.place l.ops)) l.members l.initial.list.items l.list.items
