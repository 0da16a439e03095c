use Rattle.std.proofs.Common.{take}
use Rattle.bus_agents.specs.marks.Marks.{AreNamed}
use Rattle.bus_agents.proofs.marks.lane_marks.named_on.Given as goal

-- those that the lines so far name
abbrev pub invariant-loop-line : goal.invariant-loop-line
invariant-loop-line l = AreNamed l.lane (take l.line-index l.lines) l.numbers.items
