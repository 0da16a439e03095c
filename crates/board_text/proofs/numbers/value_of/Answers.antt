use Rattle.std.proofs.Common.{arith, refl}
use Rattle.board_text.proofs.DigitLemmas.{digits_step, digits_within}
use Rattle.board_text.proofs.numbers.value_of.Goals as goal

pub overflow_mul-value : goal.overflow_mul-value
overflow_mul-value c =
    let within = digits_within c.args.radix c.loop-byte.value _ c.args.token.now c.loop-byte.byte-index c.requires.base c.loop-byte-test.true c.loop-byte.invariant refl in
    rw c.from.ensures (omega (arith, within, c.requires.fits))

pub overflow_add-value : goal.overflow_add-value
overflow_add-value c =
    let within = digits_within c.args.radix c.loop-byte.value _ c.args.token.now c.loop-byte.byte-index c.requires.base c.loop-byte-test.true c.loop-byte.invariant refl in
    rw (c.from.ensures, c.from-in-loop-byte.ensures, c.value_of_digit.ensures) (omega (arith, within, c.requires.fits))

pub loop-byte-preserved : goal.loop-byte-preserved
loop-byte-preserved c =
    rw (c.from.ensures, c.from-in-loop-byte.ensures, c.value_of_digit.ensures) (digits_step c.args.radix c.loop-byte.value _ c.args.token.now c.loop-byte.byte-index c.loop-byte-test.true c.loop-byte.invariant refl)
