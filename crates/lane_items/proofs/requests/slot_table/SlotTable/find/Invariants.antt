use Rattle.std.proofs.Common.{ℕ, drop}
use Rattle.lane_items.specs.requests.Slots.{IsOwnNumber, HasNoOwn}
use Rattle.lane_items.proofs.requests.slot_table.SlotTable.find.Given as goal

-- what is found among the slots that are left is what is found among all
abbrev pub invariant-loop-slot : goal.invariant-loop-slot
invariant-loop-slot l =
    ((number : ℕ) → IsOwnNumber l.tag l.request (drop l.slot-index l.slot-items) number → IsOwnNumber l.tag l.request l.slot-items number)
    × (HasNoOwn l.tag l.request (drop l.slot-index l.slot-items) → HasNoOwn l.tag l.request l.slot-items)
