use Rattle.std.proofs.Common.{◌≡◌, ℕ, List, [], ◌∷◌, ◌++◌, Option, Some, refl, arith}
use Rattle.pci_command.specs.declared.command.Space.TheVariants.{Mem}
use Rattle.pci_command.specs.declared.op_id.OpId.{OpId}
use Rattle.history_model.specs.Words.{Landing}
use Rattle.history_model.specs.Knowledge.{Reading, one}
use Rattle.worked_runs.proofs.left.only_runs_return_what_was_left.Goals as goal

abbrev write : OpId
write = record { master = 0; index = 0; attempt = 0 }

abbrev read : OpId
read = record { master = 0; index = 1; attempt = 0 }

-- what the read read, before anything else
abbrev reading : Reading
reading = record { word = record { target = 0; space = Mem; address = 0x100040 }; value = 0x2a; before = [] }

pub returns-clause-not_left : goal.returns-clause-not_left
returns-clause-not_left c = λ as_left.
    let left = as_left write read reading (refl, one write read refl) refl (0, omega arith, refl) in
    none_landed left.earlier left.landing left.later left.is_landed
  where
    none_landed : (earlier : List Landing) (landing : Landing) (later : List Landing) → [] ≡ earlier ++ landing ∷ later → ⊥
    none_landed [] landing later is = cc
    none_landed (first ∷ earlier) landing later is = cc

pub returns-clause-not_held : goal.returns-clause-not_held
returns-clause-not_held c = λ as_held.
    let held : ◌≡◌ {A = Option ℕ} (Some 0x2a) (Some 0) = as_held read reading refl in
    cc
