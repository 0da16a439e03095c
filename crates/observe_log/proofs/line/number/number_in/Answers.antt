use Rattle.std.proofs.Common.{◌<◌, length, arith}
use Rattle.std.proofs.lemmas.Bool.Decides.{nat_tests}
use Rattle.observe_log.proofs.FrontLemmas.{all_of, not_all_of}
use Rattle.observe_log.proofs.line.number.number_in.Goals as goal

pub returns-then-is_empty-clause-number : goal.returns-then-is_empty-clause-number
returns-then-is_empty-clause-number c =
    all_of c.args.radix c.args.most c.in_ok-value.value c.args.word.now c.in_ok-value.behind.now c.in_ok-value.ensures.number (grind (arith, nat_tests, c.if-is_empty.true, c.is_empty.ensures))

pub returns-else-is_empty-clause-number : goal.returns-else-is_empty-clause-number
returns-else-is_empty-clause-number c =
    let some : 0 < length c.in_ok-value.behind.now = grind (arith, nat_tests, c.if-is_empty.false, c.is_empty.ensures) in
    not_all_of c.args.radix c.args.most c.in_ok-value.value c.args.word.now c.in_ok-value.behind.now c.in_ok-value.ensures.number some
