use Rattle.machine_steps.proofs.ValueLemmas.{value_kept}
use Rattle.plain_replay.proofs.words.value_of.Goals as goal

pub loop-index-preserved : goal.loop-index-preserved
loop-index-preserved c =
    value_kept c.args.board.now c.args.before.now c.loop-index.index _ _ _ _ c.loop-index-test.true c.loop-index.invariant c.value_after-value.ensures
