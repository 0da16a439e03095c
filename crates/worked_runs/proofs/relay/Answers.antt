use Rattle.std.proofs.Common.{ℕ, refl}
use Rattle.pci_command.specs.declared.op_id.OpId.{OpId}
use Rattle.history_model.specs.Knowledge.{one, more}
use Rattle.worked_runs.specs.Relay.{first_write, last_read}
use Rattle.worked_runs.proofs.relay.Goals as goal

-- an operation by master, index and try
abbrev op : ℕ → ℕ → ℕ → OpId
op master index attempt = record { master = master; index = index; attempt = attempt }

pub returns-clause-told : goal.returns-clause-told
returns-clause-told c = (
  refl,
  more first_write (op 0 1 0) last_read refl
      (more (op 0 1 0) (op 1 0 1) last_read refl
      (more (op 1 0 1) (op 1 1 0) last_read refl
      (more (op 1 1 0) (op 2 0 2) last_read refl
      (one (op 2 0 2) last_read refl)))),
)
