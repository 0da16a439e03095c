use Rattle.std.proofs.Common.{arith, ◌∙◌, ap}
use Rattle.bus_targets.specs.Words.{WordsOfSpace}
use Rattle.bus_targets.proofs.WordLemmas.{lands_more}
use Rattle.bus_targets.proofs.words.TargetWords.land.Goals as goal

pub loop-phase-preserved : goal.loop-phase-preserved
loop-phase-preserved c =
    let inv = c.loop-phase.invariant in
    record {
      values = lands_more c.args.space c.args.self.now.addresses c.loop-phase.self.addresses c.loop-phase.next c.args.phases.now c.loop-phase.phase-index _ c.loop-phase.self.values _ _
          c.loop-phase-test.true inv.addresses inv.values (ap (λ (w : WordsOfSpace). w.values) c.merge.ensures);
      next = omega (arith, inv.next);
      addresses = ap (λ (w : WordsOfSpace). w.addresses) c.merge.ensures ∙ inv.addresses;
    }
