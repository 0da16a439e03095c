use Rattle.observe_log.specs.Loops.{BeginSo}
use Rattle.observe_log.proofs.told.all_begin.Given as goal

-- the masters so far
abbrev pub invariant-loop-m : goal.invariant-loop-m
invariant-loop-m l = BeginSo l.masters l.turns l.m
