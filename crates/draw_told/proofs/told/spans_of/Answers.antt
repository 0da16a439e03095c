use Rattle.std.proofs.Common.{◌+◌, ◌∷◌, [], length, ap, ◌∙◌, length-append}
use Rattle.draw_told.specs.Told.{spans_in}
use Rattle.draw_told.proofs.ToldLemmas.{spans_more}
use Rattle.draw_told.proofs.told.spans_of.Goals as goal

pub loop-one-preserved : goal.loop-one-preserved
loop-one-preserved c = record {
  told = λ board h ends landed.
      spans_more board h c.args.found.now c.loop-one.one-index c.one-item.result c.span_of.result c.loop-one.spans.items c.push.new.self.items (spans_in board h c.args.found.now) c.loop-one-test.true (c.loop-one.invariant.told board h ends landed) c.one-item.is
      (c.span_of.ensures board h ends landed) c.in_ok-push.ensures.items;
  many = ap length c.in_ok-push.ensures.items ∙ length-append c.loop-one.spans.items (c.span_of.result ∷ []) ∙ ap (λ n. n + 1) c.loop-one.invariant.many;
}
