use Rattle.std.proofs.Common.{[], ◌∙◌}
use Rattle.draw_items.specs.Waits.{waits_after, waits_of}
use Rattle.draw_items.proofs.WaitLemmas.{waits_all}
use Rattle.draw_items.proofs.waits.waits_of.Goals as goal

pub returns : goal.returns
unfolding waits_of
returns c = c.from_vec.ensures ∙ waits_all c.args.events.now c.loop-before.before c.loop-before.waits.items (waits_after 0 c.args.events.now []) c.loop-before-test.false c.loop-before.invariant.so
