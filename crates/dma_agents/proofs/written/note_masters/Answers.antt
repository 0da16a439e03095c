use Rattle.std.proofs.Common.{subst}
use Rattle.dma_agents.specs.Written.{masters_weigh, ops_weigh, Noted}
use Rattle.dma_agents.proofs.WrittenLemmas.{none_yet, master_more, masters_done}
use Rattle.dma_agents.proofs.written.note_masters.Goals as goal

pub loop-master-init : goal.loop-master-init
loop-master-init c = none_yet (masters_weigh c.args.masters.now) c.args.written.now

pub loop-master-preserved : goal.loop-master-preserved
loop-master-preserved c =
    let noted : Noted (ops_weigh c.master-item.result.ops) c.loop-master.written c.note_ops.new.written =
    subst (λ ops. Noted (ops_weigh ops) c.loop-master.written c.note_ops.new.written) c.as_slice.ensures c.in_ok-note_ops.ensures in
    master_more c.args.masters.now c.loop-master.master-index c.master-item.result c.args.written.now c.loop-master.written c.note_ops.new.written
    c.loop-master-test.true c.master-item.is c.loop-master.invariant noted

pub returns : goal.returns
returns c = masters_done c.args.masters.now c.loop-master.master-index c.args.written.now c.loop-master.written c.loop-master-test.false c.loop-master.invariant
