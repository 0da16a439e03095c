use Rattle.std.proofs.Common.{◌++◌, [], ◌∷◌, take, ap, ◌∙◌, sym, add-one, append_assoc}
use Rattle.rtrb.specs.Ring.{received, known_items}
use Rattle.lane_ends.proofs.ring.RingLemmas.{next_known, same_consumer}
use Rattle.lane_ends.proofs.ring.lane.pop_all.Goals as goal

pub loop-preserved : goal.loop-preserved
loop-preserved c =
    let all = known_items c.args.ring.now in
    let k = c.loop.counter in
    let x = c.pop_known.result in
    let one = next_known k all (known_items c.pop_known.new.self) x (sym c.loop.invariant.left ∙ c.pop_known.ensures.received.1) in
    rw add-one
    (record {
      left = sym one.0;
      popped = c.pop_known.ensures.received.0 ∙ ap (λ xs. xs ++ x ∷ []) c.loop.invariant.popped ∙ append_assoc _ (take k all) (x ∷ []) ∙ ap (λ xs. received c.args.ring.now ++ xs) (sym one.1);
      put = c.push.ensures.items ∙ ap (λ xs. xs ++ x ∷ []) c.loop.invariant.put ∙ append_assoc _ (take k all) (x ∷ []) ∙ ap (λ xs. c.args.hand.now.items ++ xs) (sym one.1);
      same = same_consumer c.args.ring.now c.loop.ring c.pop_known.new.self c.loop.invariant.same c.pop_known.ensures.ring;
    })
