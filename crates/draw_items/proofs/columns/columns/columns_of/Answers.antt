use Rattle.std.proofs.Common.{◌∙◌}
use Rattle.draw_items.proofs.columns.LayoutLemmas.{layout_all}
use Rattle.draw_items.proofs.columns.columns.columns_of.Goals as goal

pub returns : goal.returns
returns c = λ items most_is.
    layout_all c.args.board.now items c.args.start c.in_ok-middle.middle c.loop-bus.bus-index c.as_slice-buses.result.now c.loop-bus.columns _ c.loop-bus-test.false (c.loop-bus.invariant items most_is)
    c.in_ok-middle.ensures (c.as_slice-buses.ensures.value ∙ c.in_ok-order.ensures) c.new-columns.ensures
