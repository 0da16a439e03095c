use Rattle.command_safe.proofs.adverse.AnswerLemmas.{named_pair, hides_named, err_weaker}
use Rattle.command_safe.proofs.adverse.answer.answer_tree.Goals as goal

pub answer_pair-requires : goal.answer_pair-requires
answer_pair-requires c = named_pair c.args.tree.now c.args.read.now c.args.write.now c.in-Some.pair c.in-Some.ensures

pub returns-in-Some-clause-err : goal.returns-in-Some-clause-err
returns-in-Some-clause-err c =
    err_weaker c.answer_pair.result _ _ (λ status hides. hides_named c.args.tree.now c.args.read.now c.args.write.now c.in-Some.pair status c.in-Some.ensures hides) c.answer_pair.ensures.err
