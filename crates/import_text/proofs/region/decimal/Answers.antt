use Rattle.std.proofs.Common.{arith, refl}
use Rattle.import_text.proofs.DigitLemmas.{digits_step, digits_within}
use Rattle.import_text.proofs.region.decimal.Goals as goal

pub overflow_mul-value : goal.overflow_mul-value
overflow_mul-value c =
    let within = digits_within 10 c.loop-byte.value _ c.args.digits.now c.loop-byte.byte-index (omega arith) c.loop-byte-test.true c.loop-byte.invariant refl in
    omega (arith, within, c.requires)

pub overflow_add-value : goal.overflow_add-value
overflow_add-value c =
    let within = digits_within 10 c.loop-byte.value _ c.args.digits.now c.loop-byte.byte-index (omega arith) c.loop-byte-test.true c.loop-byte.invariant refl in
    rw (c.from.ensures, c.value_of_digit.ensures) (omega (arith, within, c.requires))

pub loop-byte-preserved : goal.loop-byte-preserved
loop-byte-preserved c =
    rw (c.from.ensures, c.value_of_digit.ensures) (digits_step 10 c.loop-byte.value _ c.args.digits.now c.loop-byte.byte-index c.loop-byte-test.true c.loop-byte.invariant refl)
