use Rattle.std.proofs.Common.{IfOk, IfErr, sym, subst, ◌∙◌}
use Rattle.command_observe.specs.Answers.{AnswersObserve, RefusesObserve}
use Rattle.program_words.specs.declared.Form.{Form}
use Rattle.pcitree.specs.Answers.{AnswersTo, Refuses}
use Rattle.pcitree.proofs.DoneLemmas.{done_answers, done_refuses, only_observe}
use Rattle.pcitree.proofs.answering.answer_owned.Goals as goal

-- the form that lets its input go is that of `observe`

pub returns-then-row-clause-ok : goal.returns-then-row-clause-ok
returns-then-row-clause-ok g c =
    subst (λ (form : Form). IfOk c.done.result (λ answer. AnswersTo form c.args.words.now c.args.input.items answer.text.items answer.ending))
    (sym (only_observe c.args.form (sym c.row.ensures.lets_go ∙ c.if-row.true)))
    (done_answers (AnswersObserve c.args.input.items) _ _ c.done.ensures.ok c.answer_observe_owned.ensures.ok)

pub returns-then-row-clause-err : goal.returns-then-row-clause-err
returns-then-row-clause-err g c =
    subst (λ (form : Form). IfErr c.done.result (Refuses form c.args.words.now c.args.input.items))
    (sym (only_observe c.args.form (sym c.row.ensures.lets_go ∙ c.if-row.true)))
    (done_refuses (RefusesObserve c.args.input.items) _ _ c.done.ensures.err c.answer_observe_owned.ensures.err)
