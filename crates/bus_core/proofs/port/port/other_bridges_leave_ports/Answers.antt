use Rattle.bus_core.proofs.port.MoveLemmas.{other_bridge_leaves}
use Rattle.bus_core.proofs.port.port.other_bridges_leave_ports.Goals as goal

pub returns : goal.returns
returns c = other_bridge_leaves
