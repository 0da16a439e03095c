use Rattle.std.proofs.Common.{true, false, ◌≡◌, [], refl, arith}
use Rattle.pci_command.specs.declared.command.Space.TheVariants.{Mem}
use Rattle.pci_command.specs.declared.op_id.OpId.{OpId}
use Rattle.history_model.specs.Knowledge.{one}
use Rattle.worked_runs.proofs.premises.only_runs_are_fresh.Goals as goal

abbrev write : OpId
write = record { master = 0; index = 0; attempt = 0 }

abbrev read : OpId
read = record { master = 0; index = 1; attempt = 0 }

pub returns-clause-stale : goal.returns-clause-stale
returns-clause-stale c = λ fresh.
    let landed : false ≡ true =
    fresh.informed write read (record { word = record { target = 0; space = Mem; address = 0x100040 }; value = 0x2a; before = [] })
    (refl, one write read refl) refl (0, omega arith, refl) in
    cc
