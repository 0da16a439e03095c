use Rattle.std.proofs.Common.{◌≡◌, None, inl, inr, arith, refl, ap}
use Rattle.lane_items.specs.declared.requests.slot_table.SlotEntry.{SlotEntry}
use Rattle.lane_items.specs.requests.Slots.{slot_at}
use Rattle.lane_items.proofs.requests.SlotLemmas.{slot_at-none, slot_at-push_same, slot_at-push_other, IsOneForEachNumber-push, IsHeld-push}
use Rattle.lane_items.proofs.requests.slot_table.SlotTable.hold.Goals as goal

-- the slot that is held now
abbrev held_now : goal.After-push → SlotEntry
held_now c = record { number = c.lowest_free-number.result; tag = c.args.tag; op = c.args.op; request = c.args.request }

-- its number was free
absent : (c : goal.After-push) → slot_at c.lowest_free-number.result c.self.inside.held.items ≡ None
absent c =
    rw (ap (λ t. t.slots) c.self.view_is) (slot_at-none c.lowest_free-number.result c.args.self.now.slots c.lowest_free-number.ensures.lowest.free)

pub invariant_of-self : goal.invariant_of-self
invariant_of-self c =
    let same_depth = ap (λ t. t.depth) c.self.view_is in
    let same_slots = ap (λ t. t.slots) c.self.view_is in
    let before = c.self.inside.held.items in
    record {
      at_least_one = c.self.invariant.at_least_one;
      at_most_eight = c.self.invariant.at_most_eight;
      within = rw (c.push.ensures.len, same_depth, same_slots) (omega (arith, c.requires));
      one_for_each_number = rw c.push.ensures.items (IsOneForEachNumber-push before (held_now c) c.self.invariant.one_for_each_number (absent c));
      below_depth = λ number held.
          elim (IsHeld-push number before (held_now c) (rw (← c.push.ensures.items) held)) [
            | inl same ↦ rw (same, same_depth) c.lowest_free-number.ensures.below_depth
            | inr earlier ↦ c.self.invariant.below_depth number earlier
          ];
    }

pub returns-clause-held : goal.returns-clause-held
returns-clause-held c =
    rw c.push.ensures.items (slot_at-push_same c.lowest_free-number.result c.self.inside.held.items (held_now c) refl (absent c))

pub returns-clause-others : goal.returns-clause-others
returns-clause-others c other differ =
    rw (c.push.ensures.items, ← ap (λ t. t.slots) c.self.view_is) (slot_at-push_other other c.self.inside.held.items (held_now c) differ)
