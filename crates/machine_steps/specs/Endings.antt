-- Which operation an event ends at its master.
use Rattle.std.specs.Prelude.{Option, Some, None}
use Rattle.pci_command.specs.declared.op_id.OpId.{OpId}
use Rattle.history_model.specs.Program.{Ending}

-- the operation that ends, where one does
abbrev pub ended_op : Option Ending → Option OpId
ended_op None = None
ended_op (Some ending) = Some ending.op
