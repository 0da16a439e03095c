use Rattle.std.proofs.Common.{arith}
use Rattle.judge_check.specs.remaining.Now.{bridge_now}
use Rattle.judge_check.proofs.remaining.TotalLemmas.{total_more}
use Rattle.judge_check.proofs.remaining.carried.bridges_left.Goals as goal

-- one bridge more is counted
pub loop-bridge-preserved : goal.loop-bridge-preserved
loop-bridge-preserved c =
    let board = c.args.board.now in
    let items = c.as_slice-bridge-items.result.now in (
      total_more (bridge_now board c.args.kept.now) items board.bridges c.loop-bridge.bridge-index _ c.loop-bridge.left c.bridge_left-left.result _
          c.as_slice-bridge-items.ensures c.loop-bridge-test.true c.bridge_left-left.ensures.value c.loop-bridge.invariant.0,
      omega (arith, c.loop-bridge.invariant.1, c.bridge_left-left.ensures.fits),
    )
