use Rattle.std.proofs.Common.{ℕ, List, subst}
use Rattle.command_observe.specs.Logs.{ReadsLog}
use Rattle.command_observe.proofs.AnswerLemmas.{observes, untold_refuses}
use Rattle.command_observe.proofs.answer.answer_observe_owned.Goals as goal

-- the log is that of the bytes

pub returns-clause-ok : goal.returns-clause-ok
returns-clause-ok c =
    let reads : ReadsLog c.args.input.items c.in_ok-read.read = subst (λ (l : List ℕ). ReadsLog l c.in_ok-read.read) c.as_slice.ensures.value c.in_ok-read.ensures.ok in
    observes c.args.input.items c.in_ok-read.read c.text_of_log.result (λ text. text.items) reads c.text_of_log.ensures.ok

pub returns-clause-err : goal.returns-clause-err
returns-clause-err c =
    let reads : ReadsLog c.args.input.items c.in_ok-read.read = subst (λ (l : List ℕ). ReadsLog l c.in_ok-read.read) c.as_slice.ensures.value c.in_ok-read.ensures.ok in
    untold_refuses c.args.input.items c.in_ok-read.read c.text_of_log.result reads c.text_of_log.ensures.err
