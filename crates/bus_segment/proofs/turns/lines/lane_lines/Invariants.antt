use Rattle.bus_segment.specs.turns.Works.{AsksUpTo}
use Rattle.bus_segment.proofs.turns.lines.lane_lines.Given as goal

abbrev pub invariant-loop-place : goal.invariant-loop-place
invariant-loop-place l = AsksUpTo l.bus 0 l.place l.lines
