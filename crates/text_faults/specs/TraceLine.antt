-- The number by which a fault of a trace outside its board is printed.
use Rattle.std.specs.Prelude.{ℕ}
use Rattle.text_faults.specs.declared.trace_line.TraceLineFault.{TraceLineFault}
use Rattle.text_faults.specs.declared.trace_line.TraceLineFault.TheVariants.{NoFirstLine, NoEventsLine, Unreadable, NoKind, Misshapen, Unknown, WrongCount, BehindEnd}

-- the number by which it is printed, behind an X
abbrev pub code_of : TraceLineFault → ℕ
code_of NoFirstLine = 1
code_of NoEventsLine = 2
code_of Unreadable = 3
code_of NoKind = 4
code_of Misshapen = 5
code_of Unknown = 6
code_of WrongCount = 7
code_of BehindEnd = 8
