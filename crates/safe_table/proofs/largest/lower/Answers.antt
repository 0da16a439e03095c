use Rattle.std.proofs.Common.{sym, subst}
use Rattle.board_writes.specs.Listed.{ListsPolls}
use Rattle.safe_table.proofs.BoundLemmas.{starts_bound}
use Rattle.safe_table.proofs.largest.lower.Goals as goal

pub lower_by-requires-clause-are : goal.lower_by-requires-clause-are
lower_by-requires-clause-are c = record { kept = c.requires.kept; listed = subst (ListsPolls c.args.tree.now) (sym c.as_slice.ensures.value) c.in_ok-ops.ensures }

pub lower_by-requires-clause-bounds : goal.lower_by-requires-clause-bounds
lower_by-requires-clause-bounds c = starts_bound c.args.tree.now c.args.table.now c.requires.all
