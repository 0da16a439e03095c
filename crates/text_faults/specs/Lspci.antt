-- The number by which a fault is printed, behind an I.
use Rattle.std.specs.Prelude.{ℕ}
use Rattle.text_faults.specs.declared.lspci.LspciFault.{LspciFault}
use Rattle.text_faults.specs.declared.lspci.LspciFault.TheVariants.{NoSlot, Repeated, NoRow, HighDevice, NoBoard}

-- I1 to I5
abbrev pub code_of : LspciFault → ℕ
code_of NoSlot = 1
code_of Repeated = 2
code_of NoRow = 3
code_of HighDevice = 4
code_of NoBoard = 5
