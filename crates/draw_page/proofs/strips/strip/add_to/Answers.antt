use Rattle.std.proofs.Common.{◌≡◌, length, arith, ◌∙◌}
use Rattle.draw_shapes.specs.Shapes.{shape_text}
use Rattle.draw_page.proofs.strips.DrawLemmas.{adds_all}
use Rattle.draw_page.proofs.strips.strip.add_to.Goals as goal

pub returns : goal.returns
returns c =
    let strips = c.args.strips.now in
    let counted : c.len.result ≡ length strips.items = c.len.ensures ∙ strips.ok.0 in
    adds_all c.args.begin c.args.end c.loop-strip.strip c.len.result (shape_text c.args.element.now.shape) strips.items c.loop-strip.strips.items counted
    (omega (arith, c.min-strip-end.ensures, c.loop-strip-test.false)) c.loop-strip.auto.strip (omega (arith, c.min-strip-end.ensures, c.loop-strip.invariant.far)) c.loop-strip.invariant.adds
