-- The number by which a fault of a tree is printed.
use Rattle.std.specs.Prelude.{ℕ}
use Rattle.text_faults.specs.declared.tree.TreeFault.{TreeFault}
use Rattle.text_faults.specs.declared.tree.TreeFault.TheVariants.{LacksABus, NoTree, WindowsMeet, OutOfReach, RangeInWindow, RangesMeet, DevicesMeet, WritesAHeader}

-- the number by which it is printed, behind a V
abbrev pub code_of : TreeFault → ℕ
code_of LacksABus = 1
code_of NoTree = 2
code_of WindowsMeet = 3
code_of OutOfReach = 4
code_of RangeInWindow = 5
code_of RangesMeet = 6
code_of DevicesMeet = 7
code_of WritesAHeader = 8
