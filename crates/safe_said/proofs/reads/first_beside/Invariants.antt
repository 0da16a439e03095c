use Rattle.std.proofs.Common.{◌≡◌, drop, map}
use Rattle.std.specs.List.{find}
use Rattle.safe_model.specs.said.Said.{is_beside}
use Rattle.board_writes.specs.Rows.{table_of}
use Rattle.board_writes.specs.Writes.{op_in}
use Rattle.board_writes.specs.Stretches.{joined}
use Rattle.safe_said.proofs.reads.first_beside.Given as goal

-- none of the runs so far has one
abbrev pub invariant-loop-run : goal.invariant-loop-run
invariant-loop-run l =
    find (is_beside l.looks.tree.now (table_of l.looks.table.now) l.read) (map op_in (joined (drop l.run-index l.runs)))
    ≡ find (is_beside l.looks.tree.now (table_of l.looks.table.now) l.read) (map op_in (joined l.runs))
