-- The letter and the number by which a fault of the board text is told.
use Rattle.std.specs.Prelude.{ℕ}
use Rattle.text_faults.specs.declared.board_line.Family.{Family}
use Rattle.text_faults.specs.declared.board_line.Family.TheVariants.{L, P, H}
use Rattle.text_faults.specs.declared.board_line.LineFault.{LineFault}
use Rattle.text_faults.specs.declared.board_line.LineFault.TheVariants.{BadByte, TooWide, TooLong, NoFirstLine, WrongWord, Missing, TooMany, IllFormed, Unaligned, NameUsed, NoOwner, PastItsBlock, BusUsed, OverLimit, PastItsSpace, NotTypeOne, NotServed, NoBridgeNumbers, WideWindow}

-- L of the line, P of its words and its statement, H of a header
abbrev pub family_of : LineFault → Family
family_of BadByte = L
family_of TooWide = L
family_of TooLong = L
family_of NoFirstLine = P
family_of WrongWord = P
family_of Missing = P
family_of TooMany = P
family_of IllFormed = P
family_of Unaligned = P
family_of NameUsed = P
family_of NoOwner = P
family_of PastItsBlock = P
family_of BusUsed = P
family_of OverLimit = P
family_of PastItsSpace = P
family_of NotTypeOne = H
family_of NotServed = H
family_of NoBridgeNumbers = H
family_of WideWindow = H

-- each letter counts from 1 on
abbrev pub code_of : LineFault → ℕ
code_of BadByte = 1
code_of TooWide = 2
code_of TooLong = 3
code_of NoFirstLine = 1
code_of WrongWord = 2
code_of Missing = 3
code_of TooMany = 4
code_of IllFormed = 5
code_of Unaligned = 6
code_of NameUsed = 7
code_of NoOwner = 8
code_of PastItsBlock = 9
code_of BusUsed = 10
code_of OverLimit = 11
code_of PastItsSpace = 12
code_of NotTypeOne = 1
code_of NotServed = 2
code_of NoBridgeNumbers = 3
code_of WideWindow = 4
