use Rattle.std.proofs.Common.{◌≡◌, take, is_some}
use Rattle.pci_command.specs.declared.op_id.OpId.{OpId}
use Rattle.audit_clocks.specs.Tables.{value_of}
use Rattle.draw_told.specs.Told.{is_loud_in}
use Rattle.draw_told.proofs.told.loud_of.Given as goal

-- the lines so far
abbrev pub invariant-loop-one : goal.invariant-loop-one
invariant-loop-one l = (o : OpId) → is_some (value_of o l.loud) ≡ is_loud_in (take l.one-index l.found) o
