use Rattle.untagged_apart.specs.Kept.{Gone}
use Rattle.untagged_apart.proofs.masters.master_meets.Given as goal

-- all operations so far were gone through
abbrev pub invariant-loop-index : goal.invariant-loop-index
invariant-loop-index l = Gone l.board l.kept l.number l.index
