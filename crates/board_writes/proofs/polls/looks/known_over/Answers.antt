use Rattle.std.proofs.Common.{ap, ◌∙◌, drop}
use Rattle.safe_model.specs.Clocks.{greater}
use Rattle.board_writes.proofs.KeptLemmas.{known_enough}
use Rattle.board_writes.proofs.polls.looks.known_over.Goals as goal

pub returns-then-least-known : goal.returns-then-least-known
returns-then-least-known c =
    known_enough c.args.table.now (drop c.loop-raiser.raiser-index c.args.raisers.now) c.args.known c.loop-raiser.least c.args.other c.if-least-known.true
    ∙ ap (greater c.args.known) c.loop-raiser.invariant
