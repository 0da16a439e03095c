use Rattle.std.proofs.Common.{◌≡◌, ◌++◌, map, take}
use Rattle.judge_adverse.specs.declared.ring.Initiator.TheVariants.{Lane}
use Rattle.judge_adverse.proofs.ring.list_lanes.Given as goal

-- the lanes so far are listed
abbrev pub invariant-loop-lane : goal.invariant-loop-lane
invariant-loop-lane l = l.all.items ≡ l.initial.all.items ++ map (Lane l.bus) (take l.lane-index l.lanes)
