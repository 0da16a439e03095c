use Rattle.std.proofs.lemmas.Result.{IfOk-weaker}
use Rattle.command_traces.proofs.check.AnswerLemmas.{confirmed}
use Rattle.command_traces.proofs.check.answer.answer_check.Goals as goal

pub returns-clause-ok : goal.returns-clause-ok
returns-clause-ok c =
    IfOk-weaker _ _ _ (λ text. confirmed c.args.input.now c.in_ok-read.read _ text.items c.in_ok-read.ensures.ok c.as_slice.ensures) c.answer_events.ensures.ok
