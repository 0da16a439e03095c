use Rattle.std.proofs.Common.{◌≡◌, drop}
use Rattle.board_writes.specs.Stretches.{shared_from, shared_bits}
use Rattle.board_writes.proofs.writers.stretches.shared_bits.Given as goal

-- the bits that each so far writes
abbrev pub invariant-loop-write : goal.invariant-loop-write
invariant-loop-write l = shared_from l.bits (drop l.write-index l.writes) ≡ shared_bits l.writes
