use Rattle.std.proofs.Common.{◌≡◌, length}
use Rattle.import_text.specs.Regions.{or_else, last_size}
use Rattle.import_text.proofs.region.last_size.Given as goal

-- the last size of what is left, and else the last one so far
abbrev pub invariant-loop-left : goal.invariant-loop-left
invariant-loop-left l = or_else (last_size l.left) l.found ≡ last_size l.text

abbrev pub decreases-loop-left : goal.decreases-loop-left
decreases-loop-left l = length l.left
