-- What an audit of the worked runs says.
use Rattle.std.specs.Prelude.{ℕ, List, [], ◌∷◌}
use Rattle.pci_command.specs.declared.op_id.OpId.{OpId}
use Rattle.pci_command.specs.declared.command.Space.TheVariants.{Mem}
use Rattle.law_audit.specs.Audit.{Finding}

abbrev op : ℕ → ℕ → ℕ → OpId
op master index attempt = record { master = master; index = index; attempt = attempt }

-- how the read of the third master knows of the first write: over both flags
abbrev pub relay_chain : List OpId
relay_chain = op 0 0 0 ∷ op 0 1 0 ∷ op 1 0 1 ∷ op 1 1 0 ∷ op 2 0 2 ∷ op 2 1 0 ∷ []

-- the audit of the relay: that read alone
abbrev pub relay_findings : List Finding
relay_findings =
    record {
      read = op 2 1 0;
      word = record { target = 0; space = Mem; address = 0x10000000 };
      value = 5;
      write = op 0 0 0;
      chain = relay_chain;
    } ∷ []

-- the audit of the run on one bus: the read behind its own master's write
abbrev pub one_word_findings : List Finding
one_word_findings =
    record {
      read = op 0 1 0;
      word = record { target = 0; space = Mem; address = 0x100040 };
      value = 0x2a;
      write = op 0 0 0;
      chain = op 0 0 0 ∷ op 0 1 0 ∷ [];
    } ∷ []
