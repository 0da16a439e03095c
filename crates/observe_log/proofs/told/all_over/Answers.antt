use Rattle.observe_log.proofs.FollowLemmas.{over_at}
use Rattle.observe_log.proofs.told.all_over.Goals as goal

pub loop-n-preserved : goal.loop-n-preserved
loop-n-preserved c =
    over_at c.args.log.now c.args.shown.now c.as_slice-seen-items.result.now c.loop-n.n _ _ c.is_shown.result c.as_slice-seen-items.ensures c.loop-n-test.true c.requires.each c.is_shown.ensures c.if-not-is_shown.false c.loop-n.invariant
