use Rattle.std.proofs.Common.{◌≡◌, false, replicate}
use Rattle.run_waves.proofs.watch.Watch.new.Given as goal

-- none waits
abbrev pub invariant-loop-master : goal.invariant-loop-master
invariant-loop-master l = l.waits.items ≡ replicate l._master-index false
