use Rattle.std.proofs.Common.{◌≡◌, replicate, false}
use Rattle.draw_told.proofs.told.no_keys.Given as goal

-- so many numbers, and no key
abbrev pub invariant-loop-number : goal.invariant-loop-number
invariant-loop-number l = l.keys.items ≡ replicate l._number false
