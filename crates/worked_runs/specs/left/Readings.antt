-- What reads of the relay read.
use Rattle.std.specs.Prelude.{ℕ}
use Rattle.pci_command.specs.declared.command.Space.TheVariants.{Mem}
use Rattle.pci_command.specs.declared.op_id.OpId.{OpId}
use Rattle.history_model.specs.Knowledge.{Reading}
use Rattle.worked_runs.specs.Premises.{relay_after}

-- a dword of the target, after the first events of the relay
abbrev reading : ℕ → ℕ → ℕ → Reading
reading address value events =
    record {
      word = record { target = 0; space = Mem; address = address };
      value = value;
      before = relay_after events;
    }

-- the last read reads the data, after all else
abbrev pub data_reading : Reading
data_reading = reading 0x10000000 0x5 8

-- the second master's first look at the flag, before the first master wrote it
abbrev pub early_look : OpId
early_look = record { master = 1; index = 0; attempt = 0 }

-- it reads what the flag opens with
abbrev pub early_reading : Reading
early_reading = reading 0x10000040 0x0 1
