-- A flag that is read as set, and the data behind it, before anything was written: nothing is delivered.
use Rattle.std.proofs.Common.{◌≡◌, ℕ, true, false, [], ◌∷◌, refl, arith}
use Rattle.pci_command.specs.declared.command.Space.TheVariants.{Mem}
use Rattle.pci_command.specs.declared.op_id.OpId.{OpId}
use Rattle.board_model.specs.declared.bridge.Place.TheVariants.{Target}
use Rattle.history_model.specs.declared.event.By.TheVariants.{Master}
use Rattle.history_model.specs.declared.event.Step.TheVariants.{Read}
use Rattle.history_model.specs.declared.event.Event.TheVariants.{Act}
use Rattle.history_model.specs.Knowledge.{Reading}
use Rattle.history_model.specs.Runs.{history_of}
use Rattle.law_delivered.specs.Delivered.{Delivers}
use Rattle.worked_runs.specs.Premises.{flagged_board, early_events, flag_poll, data_read}

-- the producer's operations
abbrev data_write : OpId
data_write = record { master = 0; index = 0; attempt = 0 }

abbrev flag_write : OpId
flag_write = record { master = 0; index = 1; attempt = 0 }

-- what the read got: after the poll alone
abbrev reading : Reading
reading =
    record {
      word = record { target = 0; space = Mem; address = 0x10000000 };
      value = 0;
      before = Act 0 Master flag_poll (Read 0x1) (Target 0) ∷ [];
    }

pub nothing_delivered : (opening : ℕ) → Delivers (flagged_board opening) (history_of early_events) flag_poll 0x10000040 1 → ⊥
nothing_delivered opening delivers =
    let landed : false ≡ true =
    delivers flag_write data_write data_read reading refl refl refl refl refl refl refl refl (0, omega arith, refl) in
    cc
