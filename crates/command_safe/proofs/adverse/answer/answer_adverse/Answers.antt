use Rattle.command_safe.proofs.adverse.AnswerLemmas.{refuses_read, refuses_text, err_weaker}
use Rattle.command_safe.proofs.adverse.answer.answer_adverse.Goals as goal

pub returns-in-Err-clause-err : goal.returns-in-Err-clause-err
returns-in-Err-clause-err c = refuses_text c.args.input.now c.args.read.now c.args.write.now c.in-Err.status c.in-Err.ensures.err

pub returns-in-Ok-clause-err : goal.returns-in-Ok-clause-err
returns-in-Ok-clause-err c =
    err_weaker c.answer_tree.result _ _ (λ status hides. refuses_read c.args.input.now c.args.read.now c.args.write.now c.in-Ok.tree status c.in-Ok.ensures.ok hides) c.answer_tree.ensures.err
