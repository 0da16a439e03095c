use Rattle.command_observe.proofs.AnswerLemmas.{observes, untold_refuses}
use Rattle.command_observe.proofs.answer.answer_observe.Goals as goal

pub returns-clause-ok : goal.returns-clause-ok
returns-clause-ok c = observes c.args.input.now c.in_ok-read.read c.text_of_log.result (λ text. text.items) c.in_ok-read.ensures.ok c.text_of_log.ensures.ok

pub returns-clause-err : goal.returns-clause-err
returns-clause-err c = untold_refuses c.args.input.now c.in_ok-read.read c.text_of_log.result c.in_ok-read.ensures.ok c.text_of_log.ensures.err
