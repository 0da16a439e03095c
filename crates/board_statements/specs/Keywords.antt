-- The kinds of lines behind the first one, by their first words.
use Rattle.std.specs.Prelude.{ℕ, true, false, List, Result, Ok, Err, codes, if◌then◌else◌}
use Rattle.std.specs.Str.{bytes_eq}
use Rattle.pci_command.specs.declared.command.Command.TheVariants.{IoRead, MemRead, MemWrite, MemReadMultiple, MemReadLine, MemWriteInvalidate}
use Rattle.pci_command.specs.declared.command.Space.TheVariants.{Mem, Io}
use Rattle.text_faults.specs.declared.board_line.LineFault.{LineFault}
use Rattle.text_faults.specs.declared.board_line.LineFault.TheVariants.{WrongWord}
use Rattle.board_statements.specs.declared.keyword.LineForm.{LineForm}
use Rattle.board_statements.specs.declared.keyword.LineForm.TheVariants.{Bridge, Header, Target, Id, Stall, Burst, Range, Abort, Word, Master, Reads, WritesBurst, WritesPort, ReadsRegister, WritesRegister, Polls, Discard, Drop}

-- those of a master's program, and of what is discarded or dropped
abbrev pub traffic_form_of : List ℕ → Result LineForm LineFault
traffic_form_of word =
    if bytes_eq word (codes "mr") then Ok (Reads MemRead)
    else if bytes_eq word (codes "mrl") then Ok (Reads MemReadLine)
    else if bytes_eq word (codes "mrm") then Ok (Reads MemReadMultiple)
    else if bytes_eq word (codes "ior") then Ok (Reads IoRead)
    else if bytes_eq word (codes "mw") then Ok (WritesBurst MemWrite)
    else if bytes_eq word (codes "mwi") then Ok (WritesBurst MemWriteInvalidate)
    else if bytes_eq word (codes "iow") then Ok WritesPort
    else if bytes_eq word (codes "cfr") then Ok ReadsRegister
    else if bytes_eq word (codes "cfw") then Ok WritesRegister
    else if bytes_eq word (codes "poll") then Ok (Polls Mem false)
    else if bytes_eq word (codes "iopoll") then Ok (Polls Io false)
    else if bytes_eq word (codes "pollnot") then Ok (Polls Mem true)
    else if bytes_eq word (codes "iopollnot") then Ok (Polls Io true)
    else if bytes_eq word (codes "discard") then Ok Discard
    else if bytes_eq word (codes "drop") then Ok Drop
    else Err WrongWord

-- all of them: those of bridges and targets first
unfoldable pub line_form : List ℕ → Result LineForm LineFault
line_form word =
    if bytes_eq word (codes "bridge") then Ok Bridge
    else if bytes_eq word (codes "header") then Ok Header
    else if bytes_eq word (codes "target") then Ok Target
    else if bytes_eq word (codes "id") then Ok Id
    else if bytes_eq word (codes "stall") then Ok Stall
    else if bytes_eq word (codes "burst") then Ok Burst
    else if bytes_eq word (codes "range") then Ok Range
    else if bytes_eq word (codes "abort") then Ok Abort
    else if bytes_eq word (codes "word") then Ok Word
    else if bytes_eq word (codes "master") then Ok Master
    else traffic_form_of word
