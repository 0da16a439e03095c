use Rattle.board_model.specs.declared.op.Op.{Op}
use Rattle.board_model.specs.declared.op.Op.TheVariants.{CfgRead}
use Rattle.safe_model.specs.Ops.{ops_from}
use Rattle.board_writes.specs.Rows.{table_of}
use Rattle.safe_said.proofs.LineLemmas.{op_said}
use Rattle.safe_said.proofs.walk.list_program.Goals as goal

pub loop-place-preserved : goal.loop-place-preserved
loop-place-preserved c =
    let op : Op = CfgRead 0 0 0 in
    op_said c.args.looks.now.tree.now (table_of c.args.looks.now.table.now) (ops_from c.args.master 0 c.args.ops.now) c.args.master c.args.ops.now c.loop-place.place op c.loop-place.members c.list_op.new.members
    c.args.list.now.items c.loop-place.list.items c.list_op.new.list.items c.loop-place-test.true c.loop-place.invariant c.in_ok-list_op.ensures
