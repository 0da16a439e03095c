use Rattle.std.proofs.Common.{◌≡◌, None, arith, refl, ap}
use Rattle.lane_items.specs.declared.completions.done_table.Done.{Done}
use Rattle.lane_items.specs.completions.Completions.{done_at}
use Rattle.lane_items.proofs.completions.CompletionLemmas.{done_at-none, done_at-push_same, done_at-push_other, IsOneForEachSlot-push}
use Rattle.lane_items.proofs.completions.done_table.DoneTable.arrive.Goals as goal

-- none of the slot stood
absent : (c : goal.After-push) → done_at c.args.slot c.self.inside.standing.items ≡ None
absent c = rw (ap (λ t. t.dones) c.self.view_is) (done_at-none c.args.slot c.args.self.now.dones c.requires.none_of_slot)

pub invariant_of-self : goal.invariant_of-self
invariant_of-self c =
    let same_depth = ap (λ t. t.depth) c.self.view_is in
    let same_dones = ap (λ t. t.dones) c.self.view_is in
    record {
      at_least_one = c.self.invariant.at_least_one;
      at_most_eight = c.self.invariant.at_most_eight;
      within = rw (c.push.ensures.len, same_depth, same_dones) (omega (arith, c.requires.room));
      one_for_each_slot = rw c.push.ensures.items (IsOneForEachSlot-push c.self.inside.standing.items _ c.self.invariant.one_for_each_slot (absent c));
    }

pub returns-clause-stands : goal.returns-clause-stands
returns-clause-stands c =
    let done : Done = record { slot = c.args.slot; op = c.args.op; outcome = c.args.outcome; arrival = c.args.arrival } in
    rw c.push.ensures.items (done_at-push_same c.args.slot c.self.inside.standing.items done refl (absent c))

pub returns-clause-others : goal.returns-clause-others
returns-clause-others c other differ =
    rw (c.push.ensures.items, ← ap (λ t. t.dones) c.self.view_is) (done_at-push_other other c.self.inside.standing.items _ differ)
