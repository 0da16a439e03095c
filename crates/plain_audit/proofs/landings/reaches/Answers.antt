use Rattle.plain_audit.proofs.PlaceLemmas.{reaches_kept}
use Rattle.plain_audit.proofs.landings.reaches.Goals as goal

pub loop-preserved : goal.loop-preserved
loop-preserved c =
    reaches_kept c.args.address c.args.at c.loop.next c.loop.index c.loop.reached c.is_reached-reached.result _ c.args.phases.now (record { value = 0; enables = 0 }) c.loop-test.true c.is_reached-reached.ensures c.loop.invariant
