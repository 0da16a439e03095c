-- What data phases make of a dword.
use Rattle.std.specs.Prelude.{ℕ, ◌+◌, List, [], ◌∷◌, ◌==◌, if◌then◌else◌}
use Rattle.pci_command.specs.declared.command.Space.{Space}
use Rattle.pci_command.specs.declared.phases.Phase.{Phase}
use Rattle.board_model.specs.device.Registers.{merge_of}
use Rattle.history_model.specs.Words.{mask_in}

-- data phases from `at` on, four bytes apart: that at the address is merged into the value
abbrev pub value_merged : Space → ℕ → ℕ → ℕ → List Phase → ℕ
value_merged space address at value [] = value
value_merged space address at value (phase ∷ phases) =
    value_merged space address (at + 4) (if at == address then merge_of value phase (mask_in space address) else value) phases
