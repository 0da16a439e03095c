use Rattle.std.proofs.Common.{ℕ, ◌+◌, ◌-◌, ◌<◌, ◌≤◌, length}
use Rattle.lane_items.specs.requests.Slots.{IsHeld}
use Rattle.lane_items.proofs.requests.slot_table.SlotTable.lowest_free.Given as goal

-- all numbers below are held, and so there are at most as many as held slots
abbrev pub invariant-loop-number : goal.invariant-loop-number
invariant-loop-number l =
    ((lower : ℕ) → lower < l.number → IsHeld lower l.self.slots) × (l.number ≤ length l.self.slots)

abbrev pub decreases-loop-number : goal.decreases-loop-number
decreases-loop-number l = length l.self.slots + 1 - l.number
