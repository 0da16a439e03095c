use Rattle.std.proofs.Common.{◌≡◌, ◌++◌, take}
use Rattle.lane_ends.proofs.plain.plain_end.append.Given as goal

-- the items so far stand behind those before
abbrev pub invariant-loop-item : goal.invariant-loop-item
invariant-loop-item l = l.table.items ≡ l.fn.table.items ++ take l.item-index l.items
