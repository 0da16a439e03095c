use Rattle.command_observe.proofs.AnswerLemmas.{tells, none_told}
use Rattle.command_observe.proofs.answer.text_of_log.Goals as goal

pub returns-clause-ok : goal.returns-clause-ok
returns-clause-ok c = tells c.args.read.log c.in_ok-found.found c.text_of_run.result (λ text. text.items) c.in_ok-found.ensures.ok c.text_of_run.ensures.valid c.text_of_run.ensures.read

pub returns-clause-err : goal.returns-clause-err
returns-clause-err c = none_told c.text_of_run.result c.text_of_run.ensures.err
