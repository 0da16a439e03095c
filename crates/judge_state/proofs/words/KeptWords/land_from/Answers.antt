use Rattle.std.proofs.Common.{arith, ◌∙◌}
use Rattle.judge_state.proofs.WordLemmas.{lands_more}
use Rattle.judge_state.proofs.words.KeptWords.land_from.Goals as goal

pub loop-phase-preserved : goal.loop-phase-preserved
loop-phase-preserved c =
    let inv = c.loop-phase.invariant in (
      lands_more c.args.self.now.places c.loop-phase.self.places c.args.target c.args.space c.loop-phase.next c.args.phases.now c.loop-phase.phase-index _ c.loop-phase.self.values _ _
          c.loop-phase-test.true inv.2 inv.0 c.merge_at.ensures.values,
      omega (arith, inv.1),
      c.merge_at.ensures.places ∙ inv.2,
    )
