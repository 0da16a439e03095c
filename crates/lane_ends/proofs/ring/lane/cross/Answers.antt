use Rattle.std.proofs.Common.{◌++◌, List, drop, ap, ◌∙◌}
use Rattle.lane_items.specs.declared.item.Item.{Item}
use Rattle.rtrb.specs.Ring.{known_items}
use Rattle.lane_ends.proofs.ring.RingLemmas.{lane_crosses}
use Rattle.lane_ends.proofs.ring.lane.cross.Goals as goal

pub returns-clause-crosses : goal.returns-clause-crosses
returns-clause-crosses c =
    let far = c.args.far.now in
    let w = c.args.near.now.waiting.items in
    lane_crosses c.args.near.now far c.gathered-hand.result.items c.requires.lane c.requires.all
    (c.gathered-hand.ensures.hand ∙ ap (λ (xs : List Item). (xs ++ known_items far.ring) ++ c.as_slice.result.now) c.behind-left.ensures
    ∙ ap (λ (xs : List Item). (drop far.taken far.hand.items ++ known_items far.ring) ++ xs) c.as_slice.ensures.value)
