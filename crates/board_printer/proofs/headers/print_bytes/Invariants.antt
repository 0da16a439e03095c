use Rattle.std.proofs.Common.{◌≡◌, [], ◌++◌, take, map, string_bytes}
use Rattle.board_printer.specs.Lines.{spaced}
use Rattle.board_printer.specs.headers.Headers.{byte_text}
use Rattle.board_printer.proofs.headers.print_bytes.Given as goal

-- the text so far
abbrev pub invariant-loop-byte : goal.invariant-loop-byte
invariant-loop-byte l = string_bytes l.text ≡ string_bytes l.initial.text ++ spaced (map byte_text (take l.byte-index l.bytes)) []
