use Rattle.std.proofs.Common.{◌≡◌, ◌+◌, ◌*◌, drop}
use Rattle.board_model.specs.Ways.{dwords_from}
use Rattle.audit_clocks.specs.Tables.{dword}
use Rattle.board_writes.specs.Writes.{kept_for}
use Rattle.board_writes.proofs.WriteLemmas.{Behind}
use Rattle.board_writes.proofs.writers.list.put_phases.Given as goal

-- each dword so far has the write
abbrev pub invariant-loop-place : goal.invariant-loop-place
invariant-loop-place l =
    (l.next ≡ l.first.address + 4 * l.place)
    × Behind (λ q. kept_for l.op l.posted (dword q) (dwords_from l.first.target l.first.space l.first.address l.phases) l.phases)
    (λ q. kept_for l.op l.posted (dword q) (dwords_from l.first.target l.first.space l.next (drop l.place l.phases)) (drop l.place l.phases)) l.initial.writers l.writers
