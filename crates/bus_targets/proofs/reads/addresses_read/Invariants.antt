use Rattle.std.proofs.Common.{take}
use Rattle.std.specs.List.{AllByRecursion}
use Rattle.bus_targets.specs.Reads.{KnowsProgram}
use Rattle.bus_targets.proofs.reads.addresses_read.Given as goal

-- the reads of the programs so far are among them
abbrev pub invariant-loop-master : goal.invariant-loop-master
invariant-loop-master l = AllByRecursion (KnowsProgram l.target l.space l.addresses.items) (take l.master-index l.board.masters)
