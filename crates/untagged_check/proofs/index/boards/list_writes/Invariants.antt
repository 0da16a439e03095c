use Rattle.std.proofs.Common.{drop}
use Rattle.safe_model.specs.Ops.{ops_by}
use Rattle.untagged_check.proofs.index.WalkLemmas.{BehindOps}
use Rattle.untagged_check.proofs.index.boards.list_writes.Given as goal

-- the operations of each master so far are listed
abbrev pub invariant-loop-number : goal.invariant-loop-number
invariant-loop-number l = BehindOps l.tree l.landed (ops_by 0 l.tree.masters) (ops_by l.number (drop l.number l.tree.masters)) l.initial.writes l.writes
