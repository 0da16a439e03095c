use Rattle.std.proofs.Common.{take}
use Rattle.engine_segments.specs.Parts.{PortsAtFirst}
use Rattle.engine_segments.proofs.ports.ports_of.Given as goal

-- a port for each lane so far
abbrev pub invariant-loop-lane : goal.invariant-loop-lane
invariant-loop-lane l = PortsAtFirst l.board (take l.lane-index l.lanes) l.ports.items
