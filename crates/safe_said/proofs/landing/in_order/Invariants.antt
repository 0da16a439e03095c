use Rattle.std.proofs.Common.{◌-◌, drop}
use Rattle.board_writes.specs.Rows.{table_of}
use Rattle.safe_said.specs.Landing.{Sorts}
use Rattle.board_writes.specs.Stretches.{joined}
use Rattle.safe_said.proofs.landing.in_order.Given as goal

-- the last runs so far are in their order
abbrev pub invariant-loop-behind : goal.invariant-loop-behind
invariant-loop-behind l = Sorts l.board (table_of l.table) (joined (drop (l.count - l.behind) l.runs)) l.list.items
