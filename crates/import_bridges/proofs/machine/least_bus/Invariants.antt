use Rattle.std.proofs.Common.{◌≡◌, filter, length}
use Rattle.import_bridges.specs.Functions.{least, bus_of, is_in}
use Rattle.import_bridges.proofs.machine.least_bus.Given as goal

-- the least of those so far, and then of those that are left
abbrev pub invariant-loop-left : goal.invariant-loop-left
invariant-loop-left l = least bus_of l.bus (filter (is_in l.domain) l.left) ≡ least bus_of 255 (filter (is_in l.domain) l.functions)

abbrev pub decreases-loop-left : goal.decreases-loop-left
decreases-loop-left l = length l.left
