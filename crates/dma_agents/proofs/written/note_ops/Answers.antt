use Rattle.dma_agents.specs.Written.{ops_weigh}
use Rattle.dma_agents.proofs.WrittenLemmas.{none_yet, op_more, ops_done}
use Rattle.dma_agents.proofs.written.note_ops.Goals as goal

pub loop-op-init : goal.loop-op-init
loop-op-init c = none_yet (ops_weigh c.args.ops.now) c.args.written.now

pub loop-op-preserved : goal.loop-op-preserved
loop-op-preserved c =
    op_more c.args.ops.now c.loop-op.op-index c.op-item.result c.args.written.now c.loop-op.written c.note_op.new.written
    c.loop-op-test.true c.op-item.is c.loop-op.invariant c.in_ok-note_op.ensures

pub returns : goal.returns
returns c = ops_done c.args.ops.now c.loop-op.op-index c.args.written.now c.loop-op.written c.loop-op-test.false c.loop-op.invariant
