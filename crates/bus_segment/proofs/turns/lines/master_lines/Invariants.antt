use Rattle.std.proofs.Common.{◌+◌}
use Rattle.board_model.specs.Limits.{most_ports}
use Rattle.bus_segment.specs.turns.Works.{AsksUpTo}
use Rattle.bus_segment.proofs.turns.lines.master_lines.Given as goal

abbrev pub invariant-loop-place : goal.invariant-loop-place
invariant-loop-place l = AsksUpTo l.bus most_ports (most_ports + l.place) l.lines
