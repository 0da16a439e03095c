use Rattle.safe_table.proofs.BoundLemmas.{none_fell}
use Rattle.safe_table.proofs.fall.lower_until_none.Goals as goal

pub returns-then-not-fell : goal.returns-then-not-fell
returns-then-not-fell c =
    none_fell c.args.tree.now c.args.ops.now c.loop-fell.table c.lower_all.new.table c.in_ok-fell.fell c.if-not-fell.true c.requires.are.listed c.in_ok-fell.ensures.fell c.in_ok-fell.ensures.lowers
