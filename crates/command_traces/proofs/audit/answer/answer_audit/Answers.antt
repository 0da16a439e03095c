use Rattle.std.proofs.Common.{List, ℕ, subst}
use Rattle.std.proofs.lemmas.Result.{IfOk-weaker}
use Rattle.history_model.specs.declared.event.Event.{Event}
use Rattle.command_traces.specs.audit.Answers.{AnswersAudit, Audits}
use Rattle.command_traces.proofs.audit.answer.answer_audit.Goals as goal

pub returns-clause-ok : goal.returns-clause-ok
returns-clause-ok c =
    let read = c.in_ok-read.read in
    let reads = c.in_ok-read.ensures.ok in
    let answers : (text : List ℕ) → Audits read.tree c.as_slice.result.now text → AnswersAudit c.args.input.now text = λ text told. record {
      board = read.tree;
      events = read.events;
      reads = reads.reads;
      valid = reads.valid;
      audits = subst (λ (l : List Event). Audits read.tree l text) c.as_slice.ensures told;
    } in
    IfOk-weaker c.text_of_run.result _ _
    (λ text told. answers text.items told)
    c.text_of_run.ensures.ok
