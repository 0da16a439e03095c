use Rattle.std.proofs.Common.{List}
use Rattle.std.proofs.lemmas.Result.{IfOk-weaker}
use Rattle.untagged_check.specs.declared.verdict.Stale.{Stale}
use Rattle.untagged_check.specs.Judged.{UntaggedVerdict}
use Rattle.command_traces.proofs.untagged.AnswerLemmas.{told}
use Rattle.command_traces.proofs.untagged.answer.answer_events.Goals as goal

pub returns-in_ok-apart-in-Ok-Run-clause-ok : goal.returns-in_ok-apart-in-Ok-Run-clause-ok
returns-in_ok-apart-in-Ok-Run-clause-ok c =
    let stale : List Stale = c.in-Ok-Run.stale in
    let verdict : UntaggedVerdict c.args.tree.now c.args.events.now stale = rw c.in-Ok-Run.field-0-is at c.in-Ok-Run.ensures in
    let shown = c.as_slice.ensures in
    IfOk-weaker _ _ _
    (λ text is. told c.args.tree.now c.board.result.now c.args.events.now stale c.as_slice.result.now c.in_ok-apart-in-Ok-Run.apart _ verdict c.in_ok-apart-in-Ok-Run.ensures.ok c.board.ensures.value shown is)
    c.untagged_text.ensures.ok
