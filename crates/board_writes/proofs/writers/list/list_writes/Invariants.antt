use Rattle.std.proofs.Common.{drop}
use Rattle.safe_model.specs.Ops.{ops_by}
use Rattle.audit_clocks.specs.Tables.{dword}
use Rattle.board_writes.specs.Writes.{kept_by}
use Rattle.board_writes.proofs.WriteLemmas.{Behind}
use Rattle.board_writes.proofs.writers.list.list_writes.Given as goal

-- the operations of each master so far are listed
abbrev pub invariant-loop-number : goal.invariant-loop-number
invariant-loop-number l = Behind (λ q. kept_by l.tree (dword q) (ops_by 0 l.tree.masters)) (λ q. kept_by l.tree (dword q) (ops_by l.number (drop l.number l.tree.masters))) l.initial.writers l.writers
