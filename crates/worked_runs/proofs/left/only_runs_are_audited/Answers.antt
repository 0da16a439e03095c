use Rattle.std.proofs.Common.{◌≡◌, ℕ, [], ◌∷◌, Option, Some, inl, refl, arith}
use Rattle.pci_command.specs.declared.command.Space.TheVariants.{Mem}
use Rattle.pci_command.specs.declared.op_id.OpId.{OpId}
use Rattle.history_model.specs.Knowledge.{Reading}
use Rattle.worked_runs.proofs.left.only_runs_are_audited.Goals as goal

abbrev write : OpId
write = record { master = 0; index = 0; attempt = 0 }

abbrev read : OpId
read = record { master = 0; index = 1; attempt = 0 }

-- what the read read, before anything else
abbrev reading : Reading
reading = record { word = record { target = 0; space = Mem; address = 0x100040 }; value = 0x2a; before = [] }

-- the master wrote before it read, by its program, and the audit has no line
pub returns-clause-not_all : goal.returns-clause-not_all
returns-clause-not_all c = λ all.
    let found = all write read reading (record { writes = refl; by = write; before = refl; known = inl refl }) refl (0, omega arith, refl) in
    let none = found.1 in
    omega (arith, none)

-- the read has a line for each time that it ended
pub returns-clause-not_once : goal.returns-clause-not_once
returns-clause-not_once c = λ once.
    let same : ◌≡◌ {A = ℕ} 0 1 = once 0 1 read refl refl in
    cc

-- and the first of them has the value that it returned first
pub returns-clause-not_sound : goal.returns-clause-not_sound
returns-clause-not_sound c = λ sound.
    let found = sound (record { read = read; word = reading.word; value = 0x2a; write = write; chain = write ∷ read ∷ [] }) (0, omega arith, refl) in
    let value : ◌≡◌ {A = Option ℕ} (Some 0x2b) (Some 0x2a) = found.is_value in
    let same : ◌≡◌ {A = ℕ} 0x2b 0x2a = cc in
    omega (arith, same)
