use Rattle.bus_targets.proofs.ReadLemmas.{reads_more}
use Rattle.bus_targets.proofs.reads.push_reads.Goals as goal

pub loop-op-preserved : goal.loop-op-preserved
loop-op-preserved c =
    let old = c.loop-op.invariant in
    let new = c.in_ok-push_read.ensures in
    record {
      stays = λ address there. new.stays address (old.stays address there);
      reads = reads_more c.args.target.now c.args.space c.loop-op.addresses.items c.push_read.new.addresses.items c.args.ops.now c.loop-op.op-index c.op-item.result c.loop-op-test.true c.op-item.is new.stays old.reads new.reads;
    }
