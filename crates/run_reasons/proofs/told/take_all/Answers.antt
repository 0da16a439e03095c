use Rattle.std.proofs.Common.{[], ◌∷◌, refl, arith}
use Rattle.run_reasons.proofs.told.take_all.Goals as goal

pub loop-place-init : goal.loop-place-init
loop-place-init c = (c.requires.start.0, [], c.requires.start.1, refl)

pub step_by_rule-requires : goal.step_by_rule-requires
step_by_rule-requires c =
    let so = c.loop-place.invariant in
    record {
      rule = so.0;
      history = so.1;
      stands = so.2;
      few = omega (arith, so.3, c.loop-place-test.true, c.requires.few);
    }

pub loop-place-preserved : goal.loop-place-preserved
loop-place-preserved c =
    let so = c.loop-place.invariant in
    (so.0, _ ∷ so.1, c.in-Ok.ensures.goes_on so.0 so.1 so.2, omega (arith, so.3))
