use Rattle.std.proofs.Common.{◌∙◌, ap, refl}
use Rattle.command_traces.specs.draw.Operations.{rows_of_operation}
use Rattle.command_traces.proofs.draw.OperationLemmas.{rows_all}
use Rattle.command_traces.proofs.draw.operation.rows_of_operation.Goals as goal

pub loop-before-init : goal.loop-before-init
unfolding rows_of_operation
loop-before-init c = refl

pub returns : goal.returns
returns c =
    rows_all c.board-board.result.now c.args.word.now c.args.events.now c.loop-before.before c.loop-before.rows (rows_of_operation c.board-board.result.now c.args.events.now c.args.word.now) c.loop-before-test.false c.loop-before.invariant
    ∙ ap (λ b. rows_of_operation b c.args.events.now c.args.word.now) c.board-board.ensures.value
