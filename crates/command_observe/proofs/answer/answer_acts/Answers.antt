use Rattle.command_observe.proofs.AnswerLemmas.{untold_refuses, acts_told}
use Rattle.command_observe.proofs.answer.answer_acts.Goals as goal

pub returns-clause-ok : goal.returns-clause-ok
returns-clause-ok c = acts_told c.args.input.now c.in_ok-read.read c.acts_text-answer.result c.in_ok-read.ensures.ok c.acts_text-answer.ensures.ok

pub returns-clause-err : goal.returns-clause-err
returns-clause-err c = untold_refuses c.args.input.now c.in_ok-read.read c.acts_text-answer.result c.in_ok-read.ensures.ok c.acts_text-answer.ensures.err
