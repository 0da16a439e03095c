use Rattle.untagged_apart.specs.Kept.{Gone}
use Rattle.untagged_apart.proofs.masters.some_meet.Given as goal

-- all operations of the masters so far were gone through
abbrev pub invariant-loop-number : goal.invariant-loop-number
invariant-loop-number l = Gone l.board l.kept l.number 0
