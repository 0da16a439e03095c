use Rattle.std.proofs.Common.{◌≡◌, Some, ap, List, Option}
use Rattle.std.proofs.lemmas.Result.{IfOk-weaker, IfErr-weaker}
use Rattle.command_traces.specs.draw.Operations.{operation_asked}
use Rattle.command_traces.proofs.draw.AnswerLemmas.{answered, hidden}
use Rattle.command_traces.proofs.draw.answer.draw_operation.Goals as goal

pub returns-clause-ok : goal.returns-clause-ok
returns-clause-ok c = λ input reads.
    IfOk-weaker _ _ _
    (λ page. answered input (operation_asked c.args.word.now) c.args.read.now c.as_slice.result.now c.in_ok-shown.shown.events.now c.in_ok-shown.shown.close (Some c.in_ok-rows.rows) page.text.items page.ending reads c.as_slice.ensures c.in_ok-shown.ensures.shows (ap Some c.in_ok-rows.ensures))
    c.answer_rows.ensures.ok

pub returns-clause-err : goal.returns-clause-err
returns-clause-err c = λ input reads.
    IfErr-weaker _ _ _
    (λ status. hidden input (operation_asked c.args.word.now) c.args.read.now c.as_slice.result.now c.in_ok-shown.shown.events.now c.in_ok-shown.shown.close (Some c.in_ok-rows.rows) status reads c.as_slice.ensures c.in_ok-shown.ensures.shows (ap Some c.in_ok-rows.ensures))
    c.answer_rows.ensures.err
