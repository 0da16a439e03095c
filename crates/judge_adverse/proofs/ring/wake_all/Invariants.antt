use Rattle.judge_adverse.proofs.IdleLemmas.{WokenSoFar}
use Rattle.judge_adverse.proofs.ring.wake_all.Given as goal

-- those on the bus of the first so many are woken
abbrev pub invariant-loop-place : goal.invariant-loop-place
invariant-loop-place l = WokenSoFar l.bus l.initiators l.initial.idle.items l.idle.items l.place
