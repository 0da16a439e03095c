-- The number by which a fault of a device text is printed, behind a Q.
use Rattle.std.specs.Prelude.{ℕ}
use Rattle.text_faults.specs.declared.device.DeviceFault.{DeviceFault}
use Rattle.text_faults.specs.declared.device.DeviceFault.TheVariants.{Misshapen, Misplaced, NameUsed, NotThere, OverLimit, NotClear}

-- Q1 to Q6
abbrev pub code_of : DeviceFault → ℕ
code_of Misshapen = 1
code_of Misplaced = 2
code_of NameUsed = 3
code_of NotThere = 4
code_of OverLimit = 5
code_of NotClear = 6
