use Rattle.std.proofs.Common.{◌≡◌, Some, None, is_some, true, arith, sym, ap, ◌∙◌}
use Rattle.std.specs.List.{position}
use Rattle.lane_items.specs.completions.Completions.{done_at, without}
use Rattle.lane_items.proofs.completions.CompletionLemmas.{is_of, remove-position, done_at-no_position, done_at-without_same, done_at-without_other, IsOneForEachSlot-without}
use Rattle.lane_items.proofs.completions.done_table.DoneTable.leave.Goals as goal

-- the completion of the slot left, and the others keep their order
left : (c : goal.After-remove) → c.remove.new.self.items ≡ without c.args.slot c.self.inside.standing.items
left c =
    let found : position (is_of c.args.slot) c.self.inside.standing.items ≡ Some c.in-Some.place =
    rw (ap (λ t. t.dones) c.self.view_is) (sym c.place.ensures ∙ c.in-Some.is) in
    c.remove.ensures.items ∙ remove-position c.args.slot c.in-Some.place c.self.inside.standing.items found

pub invariant_of-self : goal.invariant_of-self
invariant_of-self c =
    record {
      at_least_one = c.self.invariant.at_least_one;
      at_most_eight = c.self.invariant.at_most_eight;
      within = omega (arith, c.remove.ensures.len, c.self.invariant.within);
      one_for_each_slot = rw (left c) (IsOneForEachSlot-without c.args.slot c.self.inside.standing.items c.self.invariant.one_for_each_slot);
    }

pub returns-in-Some-clause-rest : goal.returns-in-Some-clause-rest
returns-in-Some-clause-rest c =
    let same_depth = ap (λ t. t.depth) c.self.view_is in
    let same_dones = ap (λ t. t.dones) c.self.view_is in
    let rest : c.remove.new.self.items ≡ without c.args.slot c.args.self.now.dones = rw (← same_dones) (left c) in
    cc (same_depth, rest)

pub returns-in-Some-clause-gone : goal.returns-in-Some-clause-gone
returns-in-Some-clause-gone c =
    rw (left c) (done_at-without_same c.args.slot c.self.inside.standing.items c.self.invariant.one_for_each_slot)

pub returns-in-Some-clause-others : goal.returns-in-Some-clause-others
returns-in-Some-clause-others c other differ =
    rw (left c, ← ap (λ t. t.dones) c.self.view_is) (done_at-without_other c.args.slot other c.self.inside.standing.items differ)

-- a completion of the slot stands, so there is its place
no_place : (c : goal.In_default) → ⊥
no_place c =
    let absent : done_at c.args.slot c.args.self.now.dones ≡ None =
    done_at-no_position c.args.slot c.args.self.now.dones (sym c.place.ensures ∙ c.in_default.is) in
    let stands : is_some (done_at c.args.slot c.args.self.now.dones) ≡ true = c.requires in
    cc (absent, stands)

pub returns-in_default-clause-rest : goal.returns-in_default-clause-rest
returns-in_default-clause-rest c = absurd (no_place c)

pub returns-in_default-clause-gone : goal.returns-in_default-clause-gone
returns-in_default-clause-gone c = absurd (no_place c)
