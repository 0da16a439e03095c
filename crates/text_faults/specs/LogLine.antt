-- The faults of a log outside its board, and the number by which each is printed.
use Rattle.std.specs.Prelude.{ℕ}
use Rattle.text_faults.specs.declared.log_line.LogLineFault.{LogLineFault}
use Rattle.text_faults.specs.declared.log_line.LogLineFault.TheVariants.{NoFirstLine, NoLogLine, NoEndLine, Misread, NotThere, TooEarly, NoSuchData}

-- the number by which it is printed, behind a G
abbrev pub code_of : LogLineFault → ℕ
code_of NoFirstLine = 1
code_of NoLogLine = 1
code_of NoEndLine = 1
code_of Misread = 2
code_of NotThere = 3
code_of TooEarly = 4
code_of NoSuchData = 5
