use Rattle.std.proofs.Common.{◌≡◌, drop, map}
use Rattle.safe_model.specs.said.Said.{is_open}
use Rattle.board_writes.specs.Rows.{table_of}
use Rattle.board_writes.specs.Writes.{op_in}
use Rattle.board_writes.specs.Stretches.{joined}
use Rattle.safe_said.proofs.open.is_open.Given as goal

-- none of the runs so far has one
abbrev pub invariant-loop-run : goal.invariant-loop-run
invariant-loop-run l =
    is_open l.looks.tree.now (table_of l.looks.table.now) (map op_in (joined (drop l.run-index l.runs))) l.write
    ≡ is_open l.looks.tree.now (table_of l.looks.table.now) (map op_in (joined l.runs)) l.write
