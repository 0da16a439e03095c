use Rattle.std.proofs.Common.{◌≡◌, map, take}
use Rattle.board_writes.proofs.StartLemmas.{count_in}
use Rattle.board_writes.proofs.start.everything.Given as goal

-- the programs so far
abbrev pub invariant-loop-master : goal.invariant-loop-master
invariant-loop-master l = l.numbers.items ≡ map count_in (take l.master-index l.board.masters)
