use Rattle.draw_told.specs.Told.{is_event_of}
use Rattle.draw_told.proofs.KeyLemmas.{marks_more}
use Rattle.draw_told.proofs.told.mark_chain.Goals as goal

pub loop-op-preserved : goal.loop-op-preserved
loop-op-preserved c = λ h tells.
    marks_more (is_event_of h) c.args.chain.now c.loop-op.op-index _ c.args.keys.now.items c.loop-op.keys.items c.mark_op.new.keys.items c.loop-op-test.true
    (c.loop-op.invariant h tells) (c.mark_op.ensures h tells)
