use Rattle.audit_clocks.specs.Tables.{dword}
use Rattle.safe_said.proofs.LandingLemmas.{LeftSo}
use Rattle.safe_said.proofs.values.all_left.Given as goal

-- what the first so many leave is kept
abbrev pub invariant-loop-write : goal.invariant-loop-write
invariant-loop-write l = LeftSo l.fn.board (dword l.fn.word) l.mask l.value l.write-index l.writes l.values.items
