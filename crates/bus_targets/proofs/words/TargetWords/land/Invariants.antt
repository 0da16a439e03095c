use Rattle.std.proofs.Common.{◌≡◌, ◌+◌, ◌*◌, drop}
use Rattle.bus_targets.specs.Words.{landed_at}
use Rattle.bus_targets.proofs.words.TargetWords.land.Given as goal

-- what the data phases to come make of the values is what all make of those at first
abbrev pub invariant-loop-phase : goal.invariant-loop-phase
invariant-loop-phase l = record {
  values : landed_at l.fn.space l.fn.self.addresses l.next (drop l.phase-index l.phases) l.self.values ≡ landed_at l.fn.space l.fn.self.addresses l.at l.phases l.fn.self.values;
  next : l.next ≡ l.at + 4 * l.phase-index;
  addresses : l.self.addresses ≡ l.fn.self.addresses;
}
