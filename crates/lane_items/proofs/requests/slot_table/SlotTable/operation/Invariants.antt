use Rattle.std.proofs.Common.{◌≡◌, drop}
use Rattle.lane_items.specs.requests.Slots.{slot_at}
use Rattle.lane_items.proofs.requests.slot_table.SlotTable.operation.Given as goal

-- what is found among the slots that are left is what is found among all
abbrev pub invariant-loop-held : goal.invariant-loop-held
invariant-loop-held l = slot_at l.slot l.held-items ≡ slot_at l.slot (drop l.held-index l.held-items)
