use Rattle.std.proofs.Common.{◌≤◌, length, arith}
use Rattle.board_text.proofs.DigitLemmas.{digits_step}
use Rattle.observe_log.proofs.QuickLemmas.{digits_more, digits_fit, digits_small}
use Rattle.observe_log.proofs.FrontLemmas.{begins_number, none_left, other_next}
use Rattle.observe_log.proofs.line.number.leading_number.Goals as goal
use Rattle.observe_log.proofs.line.number.leading_number.Goals.{else-loop-byte-test, then-loop-byte-test+then-digit-radix}

-- one digit more writes a number that is small enough
pub overflow_mul-value : goal.overflow_mul-value
overflow_mul-value c =
    let old = c.loop-byte.invariant in
    let digit = c.value_of_digit-digit in
    let all = digits_more c.args.radix c.args.text.now c.loop-byte.byte-index digit.result c.loop-byte-test.true digit.ensures c.if-digit-radix.false old.digits in
    let small = digits_small c.args.radix c.args.most c.loop-byte.value digit.result c.args.text.now c.loop-byte.byte-index c.requires.base c.loop-byte-test.true (omega (arith, old.counted)) all old.value digit.ensures in
    rw c.from.ensures (omega (arith, small, c.requires.fits))

pub overflow_add-value : goal.overflow_add-value
overflow_add-value c =
    let old = c.loop-byte.invariant in
    let digit = c.value_of_digit-digit in
    let all = digits_more c.args.radix c.args.text.now c.loop-byte.byte-index digit.result c.loop-byte-test.true digit.ensures c.if-digit-radix.false old.digits in
    let small = digits_small c.args.radix c.args.most c.loop-byte.value digit.result c.args.text.now c.loop-byte.byte-index c.requires.base c.loop-byte-test.true (omega (arith, old.counted)) all old.value digit.ensures in
    rw (c.from.ensures, c.from-in-loop-byte.ensures) (omega (arith, small, c.requires.fits))

pub loop-byte-preserved : goal.loop-byte-preserved
loop-byte-preserved c =
    let old = c.loop-byte.invariant in
    let digit = c.value_of_digit-digit in
    record {
      counted = omega (arith, old.counted);
      few = omega arith;
      digits = digits_more c.args.radix c.args.text.now c.loop-byte.byte-index digit.result c.loop-byte-test.true digit.ensures c.if-digit-radix.false old.digits;
      value = rw (c.from.ensures, c.from-in-loop-byte.ensures) (digits_step c.args.radix c.loop-byte.value digit.result c.args.text.now c.loop-byte.byte-index c.loop-byte-test.true old.value digit.ensures);
    }

pub returns-clause-number : goal.returns-clause-number
returns-clause-number c =
    let old = c.loop-byte.invariant in
    let within : c.loop-byte.byte-index ≤ length c.args.text.now = omega arith in
    elim c.loop-byte-test.branch [
      | else-loop-byte-test w ↦
          begins_number c.args.radix c.args.most c.loop-byte.value c.loop-byte.byte-index c.args.text.now c.split_at.result.1.now within (omega (arith, old.counted, old.few)) (omega (arith, old.counted)) old.digits old.value (rw (← old.counted) c.split_at.ensures.back) (none_left c.args.radix c.loop-byte.byte-index c.args.text.now (omega arith))
      | then-loop-byte-test+then-digit-radix w ↦
          begins_number c.args.radix c.args.most c.loop-byte.value c.loop-byte.byte-index c.args.text.now c.split_at.result.1.now within (omega (arith, old.counted, old.few)) (omega (arith, old.counted)) old.digits old.value (rw (← old.counted) c.split_at.ensures.back) (other_next c.args.radix c.loop-byte.byte-index w.value_of_digit-digit.result c.args.text.now w.value_of_digit-digit.ensures w.if-digit-radix.true)
    ]

pub returns-clause-below : goal.returns-clause-below
returns-clause-below c =
    digits_fit c.args.radix c.args.most c.loop-byte.value c.args.text.now c.loop-byte.byte-index c.requires.base (omega (arith, c.loop-byte.invariant.counted, c.loop-byte.invariant.few)) c.loop-byte.invariant.digits c.loop-byte.invariant.value
