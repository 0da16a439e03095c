use Rattle.std.proofs.Common.{◌-◌, length}
use Rattle.board_writes.proofs.RaisingLemmas.{Found}
use Rattle.board_writes.proofs.writers.run.Run.put_raising.Given as goal

-- with those behind the place they are all that raise it
abbrev pub invariant-loop-write : goal.invariant-loop-write
invariant-loop-write l = Found l.awaited l.self l.fn.found.items l.place l.found.items

abbrev pub decreases-loop-write : goal.decreases-loop-write
decreases-loop-write l = length l.self - l.place
