-- Of which statuses nothing is said behind the first line.
use Rattle.program_status.specs.declared.status.Status.{Status}
use Rattle.program_status.specs.declared.status.Status.TheVariants.{Done, NoMemory, Usage, ReadFault, WriteFault, TooLong, BadBoard, BadTrace, BadMachine, TooManyEvents, NotRun, Incomplete, NotSafe, NotShown, DrawnTo, BadLog, NotTold, TooMuch, ToldTo}

-- nothing is said of an input that ends so
abbrev pub IsQuiet : Status → Type 0
IsQuiet Done = Unit {0}
IsQuiet NoMemory = Unit {0}
IsQuiet (Usage _) = Unit {0}
IsQuiet ReadFault = Unit {0}
IsQuiet WriteFault = Unit {0}
IsQuiet TooLong = Unit {0}
IsQuiet (BadBoard _ _) = ⊥
IsQuiet (BadTrace _ _) = ⊥
IsQuiet (BadMachine _ _) = ⊥
IsQuiet (TooManyEvents _) = Unit {0}
IsQuiet (NotRun _ _) = ⊥
IsQuiet (Incomplete _) = ⊥
IsQuiet (NotSafe _) = Unit {0}
IsQuiet NotShown = Unit {0}
IsQuiet (DrawnTo _ _) = ⊥
IsQuiet (BadLog _ _) = ⊥
IsQuiet (NotTold _ _) = ⊥
IsQuiet (TooMuch _ _) = ⊥
IsQuiet (ToldTo _ _) = ⊥
