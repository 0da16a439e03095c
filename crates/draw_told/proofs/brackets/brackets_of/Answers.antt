use Rattle.draw_told.specs.declared.told.Span.{Span}
use Rattle.draw_told.specs.Brackets.{with_brackets}
use Rattle.draw_told.proofs.BracketLemmas.{brackets_more, brackets_all}
use Rattle.draw_told.proofs.brackets.brackets_of.Goals as goal

pub loop-span-preserved : goal.loop-span-preserved
loop-span-preserved c =
    let d : Span = record { landed = 0; read = 0 } in
    brackets_more c.args.spans.now c.loop-span.span-index d c.loop-span.brackets c.stand.new.self (with_brackets c.args.spans.now c.new-brackets.result) c.loop-span-test.true c.loop-span.invariant c.in_ok-stand.ensures

pub returns : goal.returns
returns c = brackets_all c.args.spans.now c.loop-span.span-index c.loop-span.brackets c.new-brackets.result c.loop-span-test.false c.loop-span.invariant c.new-brackets.ensures
