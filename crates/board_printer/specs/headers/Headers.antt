-- The header bytes of the bridges of a board, as text: for each `bridge B`, and four lines of sixteen bytes.
use Rattle.std.specs.Prelude.{ℕ, ◌/◌, ◌%◌, List, [], ◌∷◌, false, map, take, drop, codes}
use Rattle.std.specs.List.{flat_map}
use Rattle.std.specs.Fmt.{decimal, digit_glyph}
use Rattle.board_model.specs.declared.bridge.Bridge.{Bridge}
use Rattle.board_model.specs.declared.board.Board.{Board}
use Rattle.board_model.specs.HeaderBytes.{header_bytes}
use Rattle.board_printer.specs.Lines.{Line, text_of}

-- two hexadecimal digits in lower case
unfoldable pub byte_text : ℕ → List ℕ
byte_text byte = digit_glyph false (byte / 16) ∷ digit_glyph false (byte % 16) ∷ []

-- sixteen bytes from this one on
abbrev pub sixteen : ℕ → List ℕ → List ℕ
sixteen from bytes = take 16 (drop from bytes)

-- the offset, and sixteen bytes
abbrev pub row_line : List ℕ → ℕ → List ℕ → Line
row_line label from bytes = label ∷ map byte_text (sixteen from bytes)

-- the 64 bytes in four lines
unfoldable pub rows_of : List ℕ → List Line
rows_of bytes =
    row_line (codes "00:") 0 bytes ∷ row_line (codes "10:") 16 bytes ∷ row_line (codes "20:") 32 bytes ∷ row_line (codes "30:") 48 bytes ∷ []

-- `bridge B`, then its bytes
abbrev pub header_lines : Bridge → List Line
header_lines bridge = (codes "bridge" ∷ decimal bridge.bus ∷ []) ∷ rows_of (header_bytes bridge)

-- the bridges in the order of the board
unfoldable pub headers_text : Board → List ℕ
headers_text board = text_of (flat_map header_lines board.bridges)
