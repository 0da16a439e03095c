use Rattle.std.proofs.Common.{List, subst}
use Rattle.std.specs.Prelude.{IfOk}
use Rattle.import_text.specs.declared.function.Function.{Function}
use Rattle.command_boards.specs.import.Answers.{TellsMachine}
use Rattle.command_boards.proofs.import.AnswerLemmas.{answers, untold_refuses}
use Rattle.command_boards.proofs.import.answer.answer_import.Goals as goal

pub returns-clause-ok : goal.returns-clause-ok
returns-clause-ok c =
    let tells : IfOk c.text_of.result (λ text. TellsMachine c.in_ok-functions.functions text.items) =
    subst (λ (functions : List Function). IfOk c.text_of.result (λ text. TellsMachine functions text.items)) c.as_slice.ensures c.text_of.ensures.ok in
    answers c.args.input.now c.in_ok-functions.functions c.text_of.result (λ text. text.items) c.in_ok-functions.ensures.ok tells

pub returns-clause-err : goal.returns-clause-err
returns-clause-err c = untold_refuses c.args.input.now c.in_ok-functions.functions c.text_of.result c.in_ok-functions.ensures.ok c.text_of.ensures.err
