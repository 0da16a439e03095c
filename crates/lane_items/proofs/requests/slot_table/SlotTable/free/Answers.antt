use Rattle.std.proofs.Common.{◌≡◌, Some, None, is_some, true, arith, sym, ap, ◌∙◌}
use Rattle.std.specs.List.{position}
use Rattle.lane_items.specs.requests.Slots.{slot_at, without}
use Rattle.lane_items.proofs.requests.SlotLemmas.{is_of, remove-position, slot_at-no_position, slot_at-without_same, slot_at-without_other, IsOneForEachNumber-without, IsHeld-without}
use Rattle.lane_items.proofs.requests.slot_table.SlotTable.free.Goals as goal

-- the slot is free, and the others keep their order
left : (c : goal.After-remove) → c.remove.new.self.items ≡ without c.args.slot c.self.inside.held.items
left c =
    let found : position (is_of c.args.slot) c.self.inside.held.items ≡ Some c.in-Some.place =
    rw (ap (λ t. t.slots) c.self.view_is) (sym c.place.ensures.place ∙ c.in-Some.is) in
    c.remove.ensures.items ∙ remove-position c.args.slot c.in-Some.place c.self.inside.held.items found

pub invariant_of-self : goal.invariant_of-self
invariant_of-self c =
    record {
      at_least_one = c.self.invariant.at_least_one;
      at_most_eight = c.self.invariant.at_most_eight;
      within = omega (arith, c.remove.ensures.len, c.self.invariant.within);
      one_for_each_number = rw (left c) (IsOneForEachNumber-without c.args.slot c.self.inside.held.items c.self.invariant.one_for_each_number);
      below_depth = λ number held.
          c.self.invariant.below_depth number (IsHeld-without number c.args.slot c.self.inside.held.items (rw (← left c) held));
    }

pub returns-in-Some-clause-rest : goal.returns-in-Some-clause-rest
returns-in-Some-clause-rest c =
    let same_depth = ap (λ t. t.depth) c.self.view_is in
    let same_slots = ap (λ t. t.slots) c.self.view_is in
    let rest : c.remove.new.self.items ≡ without c.args.slot c.args.self.now.slots = rw (← same_slots) (left c) in
    cc (same_depth, rest)

pub returns-in-Some-clause-free : goal.returns-in-Some-clause-free
returns-in-Some-clause-free c =
    rw (left c) (slot_at-without_same c.args.slot c.self.inside.held.items c.self.invariant.one_for_each_number)

pub returns-in-Some-clause-others : goal.returns-in-Some-clause-others
returns-in-Some-clause-others c other differ =
    rw (left c, ← ap (λ t. t.slots) c.self.view_is) (slot_at-without_other c.args.slot other c.self.inside.held.items differ)

-- the slot is held, so there is its place
no_place : (c : goal.In_default) → ⊥
no_place c =
    let absent : slot_at c.args.slot c.args.self.now.slots ≡ None =
    slot_at-no_position c.args.slot c.args.self.now.slots (sym c.place.ensures.place ∙ c.in_default.is) in
    let stands : is_some (slot_at c.args.slot c.args.self.now.slots) ≡ true = c.requires in
    cc (absent, stands)

pub returns-in_default-clause-rest : goal.returns-in_default-clause-rest
returns-in_default-clause-rest c = absurd (no_place c)

pub returns-in_default-clause-free : goal.returns-in_default-clause-free
returns-in_default-clause-free c = absurd (no_place c)
