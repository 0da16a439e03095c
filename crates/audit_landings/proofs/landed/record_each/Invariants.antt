use Rattle.std.proofs.Common.{◌≡◌, take}
use Rattle.pci_command.specs.declared.op_id.OpId.{OpId}
use Rattle.history_model.specs.Runs.{history_of}
use Rattle.audit_clocks.specs.Tables.{value_of}
use Rattle.audit_landings.specs.Hits.{whole_at}
use Rattle.audit_landings.proofs.landed.record_each.Given as goal

-- those of the events so far
abbrev pub invariant-loop-index : goal.invariant-loop-index
invariant-loop-index l = (op : OpId) → value_of op l.whole ≡ whole_at (history_of (take l.index l.events)) op
