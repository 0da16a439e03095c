use Rattle.std.proofs.Common.{drop}
use Rattle.safe_model.specs.Ops.{ops_from}
use Rattle.untagged_check.proofs.index.WalkLemmas.{BehindOps}
use Rattle.untagged_check.proofs.index.boards.list_program.Given as goal

-- each operation so far is listed
abbrev pub invariant-loop-place : goal.invariant-loop-place
invariant-loop-place l = BehindOps l.board l.landed (ops_from l.master 0 l.ops) (ops_from l.master l.place (drop l.place l.ops)) l.initial.writes l.writes
