use Rattle.observe_log.proofs.PlainLemmas.{words_stand}
use Rattle.observe_log.proofs.line.cut.LineWords.of_plain.Goals as goal

pub invariant_of-result : goal.invariant_of-result
invariant_of-result c = words_stand c.args.line.now c.requires
