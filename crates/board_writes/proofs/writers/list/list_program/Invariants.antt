use Rattle.std.proofs.Common.{drop}
use Rattle.safe_model.specs.Ops.{ops_from}
use Rattle.audit_clocks.specs.Tables.{dword}
use Rattle.board_writes.specs.Writes.{kept_by}
use Rattle.board_writes.proofs.WriteLemmas.{Behind}
use Rattle.board_writes.proofs.writers.list.list_program.Given as goal

-- each operation so far is listed
abbrev pub invariant-loop-place : goal.invariant-loop-place
invariant-loop-place l = Behind (λ q. kept_by l.board (dword q) (ops_from l.master 0 l.ops)) (λ q. kept_by l.board (dword q) (ops_from l.master l.place (drop l.place l.ops))) l.initial.writers l.writers
