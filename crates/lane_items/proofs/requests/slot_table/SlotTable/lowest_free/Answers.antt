use Rattle.std.proofs.Common.{sym, ◌∙◌, ℕ, ◌+◌, ◌<◌, below_more}
use Rattle.lane_items.specs.requests.Slots.{IsHeld}
use Rattle.lane_items.proofs.requests.LowestFreeLemmas.{all_below_held}
use Rattle.lane_items.proofs.requests.slot_table.SlotTable.lowest_free.Goals as goal

pub loop-number-preserved : goal.loop-number-preserved
loop-number-preserved c =
    let slots = c.args.self.now.slots in
    let held : (lower : ℕ) → lower < c.loop-number.number + 1 → IsHeld lower slots =
    below_more _ _ c.loop-number.invariant.0 (c.operation.ensures.held.0 (sym c.is_some.ensures ∙ c.loop-number-test.true)) in
    (held, all_below_held (c.loop-number.number + 1) slots held)
