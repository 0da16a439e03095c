use denote.Param.Send.{sendable}
use Rattle.std.proofs.Common.{ℕ, ◌<◌, ◌^◌, List, length, IfOk, IfErr, sym, subst, ap, ◌∙◌}
use Rattle.std.proofs.lemmas.Result.{IfOk-weaker, IfErr-weaker}
use Rattle.std.specs.Option.{option_map}
use Rattle.pcitree.specs.Answers.{AnswersTo, Refuses}
use Rattle.pcitree.specs.Given.{IsGiven}
use Rattle.pcitree.proofs.GivenLemmas.{given_number, number_answered, number_refused, file_answered, file_refused, short_enough, reads_by, none_has}
use Rattle.pcitree.proofs.program.answer_of.Goals as goal

-- The number among the words.

pub answer-requires-clause-short : goal.answer-requires-clause-short
answer-requires-clause-short g c = λ κs within.
    subst (λ (l : List ℕ). length l < 2 ^ 31) (sym c.as_bytes.ensures.value)
    (short_enough c.args.form _ _ c.number_of.ensures.small c.requires (sym c.number_of.ensures.value ∙ ap (option_map (λ n. n.now)) c.in-Some.is))

pub answer-requires-clause-given : goal.answer-requires-clause-given
answer-requires-clause-given g c = λ κs within.
    subst (λ (l : List ℕ). IsGiven c.args.form l) (sym c.as_bytes.ensures.value)
    (given_number c.args.form _ _ c.requires (sym c.number_of.ensures.value ∙ ap (option_map (λ n. n.now)) c.in-Some.is))

pub returns-in-Some-clause-ok : goal.returns-in-Some-clause-ok
returns-in-Some-clause-ok g c =
    IfOk-weaker _ _ _ (λ answer. number_answered c.args.form _ _ _ _ answer.text.items answer.ending c.requires (sym c.number_of.ensures.value ∙ ap (option_map (λ n. n.now)) c.in-Some.is))
    (subst (λ (l : List ℕ). IfOk c.answer.result (λ answer. AnswersTo c.args.form c.args.words.now l answer.text.items answer.ending)) c.as_bytes.ensures.value c.answer.ensures.ok)

pub returns-in-Some-clause-stopped : goal.returns-in-Some-clause-stopped
returns-in-Some-clause-stopped g c =
    IfErr-weaker _ _ _ (λ status. number_refused c.args.form _ _ _ _ _ _ status c.requires (sym c.number_of.ensures.value ∙ ap (option_map (λ n. n.now)) c.in-Some.is))
    (subst (λ (l : List ℕ). IfErr c.answer.result (Refuses c.args.form c.args.words.now l)) c.as_bytes.ensures.value c.answer.ensures.err)

-- The file that the source reads.

pub read_and_answer-requires : goal.read_and_answer-requires
read_and_answer-requires g c = (search sendable, (search sendable, reads_by c.args.form _ c.requires (sym c.number_of.ensures.value ∙ ap (option_map (λ n. n.now)) c.in-None.is)))

pub returns-in-None-clause-ok : goal.returns-in-None-clause-ok
returns-in-None-clause-ok g c = IfOk-weaker _ _ _ (λ answer. file_answered c.args.form _ _ _ answer.text.items answer.ending (sym c.number_of.ensures.value ∙ ap (option_map (λ n. n.now)) c.in-None.is)) c.read_and_answer.ensures.ok

pub returns-in-None-clause-stopped : goal.returns-in-None-clause-stopped
returns-in-None-clause-stopped g c = IfErr-weaker _ _ _ (λ status. file_refused c.args.form _ _ _ _ _ status (sym c.number_of.ensures.value ∙ ap (option_map (λ n. n.now)) c.in-None.is)) c.read_and_answer.ensures.stopped

pub returns-in-None-clause-unasked : goal.returns-in-None-clause-unasked
returns-in-None-clause-unasked g c = none_has _ c.args.form _ (sym c.number_of.ensures.value ∙ ap (option_map (λ n. n.now)) c.in-None.is)
