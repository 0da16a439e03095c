use Rattle.draw_page.proofs.strips.DrawLemmas.{drawn_none, drawn_more, drawn_all}
use Rattle.draw_page.proofs.strips.strip.draw_all.Goals as goal

pub loop-element-init : goal.loop-element-init
loop-element-init c = drawn_none c.args.frame.now c.args.strips.now.items

pub loop-element-preserved : goal.loop-element-preserved
loop-element-preserved c =
    drawn_more c.args.frame.now c.args.elements.now c.loop-element.element-index c.element-item.result c.args.strips.now.items c.loop-element.strips.items c.draw.new.strips.items c.loop-element-test.true c.element-item.is
    c.loop-element.invariant c.in_ok-draw.ensures

pub returns : goal.returns
returns c = drawn_all c.args.frame.now c.args.elements.now c.loop-element.element-index c.args.strips.now.items c.loop-element.strips.items c.loop-element-test.false c.loop-element.invariant
