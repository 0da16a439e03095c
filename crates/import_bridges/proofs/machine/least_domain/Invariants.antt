use Rattle.std.proofs.Common.{◌≡◌, length}
use Rattle.import_bridges.specs.Functions.{least, domain_of, least_domain}
use Rattle.import_bridges.proofs.machine.least_domain.Given as goal

-- the least of those so far, and then of those that are left
abbrev pub invariant-loop-left : goal.invariant-loop-left
invariant-loop-left l = least domain_of l.domain l.left ≡ least_domain l.functions

abbrev pub decreases-loop-left : goal.decreases-loop-left
decreases-loop-left l = length l.left
