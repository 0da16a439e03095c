use Rattle.std.proofs.Common.{◌≡◌, ap, ◌∙◌, arith}
use Rattle.board_writes.specs.Rows.{number, raised_at}
use Rattle.board_writes.proofs.TellLemmas.{no_more_next, no_more_all}
use Rattle.board_writes.proofs.program.is_above.Goals as goal

pub loop-other-preserved : goal.loop-other-preserved
loop-other-preserved c =
    let most : c.raised.result ≡ raised_at (number c.args.before.now c.loop-other.other) c.args.op c.loop-other.other = c.raised.ensures ∙ ap (λ n. raised_at n c.args.op c.loop-other.other) c.number_at.ensures in
    let is = c.from.ensures in
    let low = c.if-raised-from.false in
    no_more_next c.args.numbers.now c.args.before.now c.args.op c.loop-other.other c.loop-other.invariant (omega (arith, most, is, low))

pub returns : goal.returns
returns c = λ _. no_more_all c.args.numbers.now c.args.before.now c.args.op c.loop-other.other c.loop-other-test.false c.loop-other.invariant
