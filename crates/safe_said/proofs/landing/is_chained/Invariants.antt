use Rattle.std.proofs.Common.{◌≡◌, length, map}
use Rattle.board_writes.specs.Rows.{table_of}
use Rattle.board_writes.specs.Writes.{op_in}
use Rattle.safe_said.specs.Landing.{is_chained}
use Rattle.safe_said.proofs.landing.is_chained.Given as goal

-- each so far lands no more once the next one does
abbrev pub invariant-loop-left : goal.invariant-loop-left
invariant-loop-left l = is_chained l.board (table_of l.table) (map op_in l.left) ≡ is_chained l.board (table_of l.table) (map op_in l.list)

abbrev pub decreases-loop-left : goal.decreases-loop-left
decreases-loop-left l = length l.left
