use Rattle.std.proofs.Common.{◌≡◌, replicate}
use Rattle.untagged_run.proofs.told.knowers.known_of.Given as goal

-- so many so far
abbrev pub invariant-loop-master : goal.invariant-loop-master
invariant-loop-master l = l.known.items ≡ replicate l._master (replicate l.masters 0)
