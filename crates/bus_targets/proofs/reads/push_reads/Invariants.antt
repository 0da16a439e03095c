use Rattle.std.proofs.Common.{take}
use Rattle.std.specs.List.{AllByRecursion}
use Rattle.bus_targets.specs.Reads.{KnowsRead, StillThere}
use Rattle.bus_targets.proofs.reads.push_reads.Given as goal

-- the reads so far are among them
abbrev pub invariant-loop-op : goal.invariant-loop-op
invariant-loop-op l = record {
  stays : StillThere l.fn.addresses.items l.addresses.items;
  reads : AllByRecursion (KnowsRead l.target l.space l.addresses.items) (take l.op-index l.ops);
}
