use Rattle.std.proofs.Common.{◌≡◌, take}
use Rattle.engine_phases.specs.merging.Merged.{all_events}
use Rattle.engine_phases.proofs.merging.gather.Given as goal

-- the events of the parts before
abbrev pub invariant-loop-part : goal.invariant-loop-part
invariant-loop-part l = l.all.items ≡ all_events (take l.part-index l.parts)
