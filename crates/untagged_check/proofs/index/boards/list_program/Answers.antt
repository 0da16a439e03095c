use Rattle.board_model.specs.declared.op.Op.{Op}
use Rattle.board_model.specs.declared.op.Op.TheVariants.{CfgRead}
use Rattle.safe_model.specs.Ops.{ops_from}
use Rattle.untagged_check.proofs.index.WalkLemmas.{program_more}
use Rattle.untagged_check.proofs.index.boards.list_program.Goals as goal

pub loop-place-preserved : goal.loop-place-preserved
loop-place-preserved c =
    let op : Op = CfgRead 0 0 0 in
    program_more c.args.board.now c.args.landed.now (ops_from c.args.master 0 c.args.ops.now) c.args.master c.args.ops.now c.loop-place.place op c.args.writes.now c.loop-place.writes c.put_write.new.writes
    c.loop-place-test.true c.loop-place.invariant (rw c.write_of.ensures at c.in_ok-put_write.ensures)
