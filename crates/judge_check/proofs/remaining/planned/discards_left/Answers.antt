use Rattle.std.proofs.Common.{◌∙◌, arith}
use Rattle.history_model.specs.Left.{discard_left}
use Rattle.judge_check.specs.remaining.Now.{world_now}
use Rattle.judge_check.proofs.remaining.TotalLemmas.{total_more}
use Rattle.judge_check.proofs.remaining.planned.discards_left.Goals as goal

-- one line more is counted
pub loop-planned-preserved : goal.loop-planned-preserved
loop-planned-preserved c =
    let board = c.args.board.now in
    let items = c.as_slice-planned-items.result.now in (
      total_more (discard_left board (world_now board c.args.kept.now)) items board.discards c.loop-planned.planned-index _ c.loop-planned.left c.from-left.result _
          c.as_slice-planned-items.ensures c.loop-planned-test.true (c.from-left.ensures ∙ c.discard_left.ensures.value) c.loop-planned.invariant.0,
      omega (arith, c.loop-planned.invariant.1, c.from-left.ensures, c.discard_left.ensures.fits),
      c.loop-planned.invariant.2,
    )
