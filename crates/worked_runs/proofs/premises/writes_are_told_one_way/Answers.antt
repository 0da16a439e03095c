use Rattle.std.proofs.Common.{ℕ, refl}
use Rattle.pci_command.specs.declared.op_id.OpId.{OpId}
use Rattle.history_model.specs.Knowledge.{one, more}
use Rattle.worked_runs.specs.Relay.{first_write, second_write}
use Rattle.worked_runs.proofs.premises.writes_are_told_one_way.Goals as goal

-- an operation by master, index and try
abbrev op : ℕ → ℕ → ℕ → OpId
op master index attempt = record { master = master; index = index; attempt = attempt }

pub returns-clause-told : goal.returns-clause-told
returns-clause-told c =
    (refl, more first_write (op 0 1 0) second_write refl (more (op 0 1 0) (op 1 0 1) second_write refl (one (op 1 0 1) second_write refl)))
