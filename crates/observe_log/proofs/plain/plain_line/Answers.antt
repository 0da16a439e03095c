use Rattle.observe_log.proofs.PlainLemmas.{plain_is, plain_step}
use Rattle.observe_log.proofs.plain.plain_line.Goals as goal

pub returns-clause-line : goal.returns-clause-line
returns-clause-line c =
    plain_step c.args.bytes.now c.split_at.result.1.now c.split_at-2.result.0.now c.split_at-2.result.1.now c.in_ok-stop._behind.now c.args.at c.length_of_plain-size.result c.in_ok-stop.stop.now
    c.requires c.split_at.ensures.back c.length_of_plain-size.ensures.value c.length_of_plain-size.ensures.within c.split_at-2.ensures.front c.split_at-2.ensures.back c.in_ok-stop.ensures.cases.0 c.if-stop-ne10.false

pub returns-clause-plain : goal.returns-clause-plain
returns-clause-plain c =
    plain_is c.split_at.result.1.now c.split_at-2.result.0.now c.length_of_plain-size.result c.length_of_plain-size.ensures.value c.length_of_plain-size.ensures.within c.split_at-2.ensures.front c.if-size-gt256.false
