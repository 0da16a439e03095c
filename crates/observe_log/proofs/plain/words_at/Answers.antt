use Rattle.std.proofs.Common.{length, ap, refl, arith}
use Rattle.observe_log.proofs.PlainLemmas.{few_words}
use Rattle.observe_log.proofs.plain.words_at.Goals as goal

pub returns-then-plain-clause-few : goal.returns-then-plain-clause-few
returns-then-plain-clause-few c =
    let plain = c.requires c.if-plain.true in
    omega (arith, few_words c.args.line.now, ap length c.of_plain.ensures, plain.short)

pub returns-then-is_readable-clause-few : goal.returns-then-is_readable-clause-few
returns-then-is_readable-clause-few c =
    let short = c.if-is_readable.ensures.short refl in
    omega (arith, few_words c.args.line.now, ap length c.new.ensures, short)

pub returns-then-plain-clause-within : goal.returns-then-plain-clause-within
returns-then-plain-clause-within c = omega (arith, few_words c.args.line.now, ap length c.of_plain.ensures)

pub returns-then-is_readable-clause-within : goal.returns-then-is_readable-clause-within
returns-then-is_readable-clause-within c = omega (arith, few_words c.args.line.now, ap length c.new.ensures)
