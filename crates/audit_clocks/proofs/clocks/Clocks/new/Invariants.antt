use Rattle.std.proofs.Common.{◌≡◌, replicate, []}
use Rattle.audit_clocks.proofs.clocks.Clocks.new.Given as goal

abbrev pub invariant-loop-master : goal.invariant-loop-master
invariant-loop-master l = l.all.items ≡ replicate l._master (replicate l.masters [])
