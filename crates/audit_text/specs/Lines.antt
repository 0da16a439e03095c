-- The text of an audit: a line for each finding, and how many there are.
use Rattle.std.specs.Prelude.{ℕ, List, [], ◌∷◌, ◌++◌, length, map, codes}
use Rattle.std.specs.Fmt.{decimal}
use Rattle.pci_command.specs.declared.command.Space.{Space}
use Rattle.pci_command.specs.declared.op_id.OpId.{OpId}
use Rattle.board_model.specs.declared.board.Board.{Board}
use Rattle.board_printer.specs.Lines.{Line, spaced, line_text, text_of}
use Rattle.board_printer.specs.Numbers.{word_text, address_text}
use Rattle.board_printer.specs.Spaces.{space_word}
use Rattle.trace_text.specs.Words.{op_word, target_name}
use Rattle.law_audit.specs.Audit.{Finding}

-- `read TARGET SPACE ADDRESS`
abbrev pub word_words : Board → ℕ → Space → ℕ → Line
word_words board target space address = codes "read" ∷ target_name board target ∷ space_word space ∷ address_text address ∷ []

-- `VALUE knowing WRITE`
abbrev pub known_words : Board → ℕ → OpId → Line
known_words board value write = word_text value ∷ codes "knowing" ∷ op_word board write ∷ []

-- `READ read TARGET SPACE ADDRESS VALUE knowing WRITE by CHAIN`
abbrev pub finding_line : Board → Finding → Line
finding_line board found =
    op_word board found.read
    ∷ (word_words board found.word.target found.word.space found.word.address
    ++ (known_words board found.value found.write
    ++ codes "by" ∷ map (op_word board) found.chain))

-- the same without the newline
abbrev pub finding_words : Board → Finding → List ℕ
finding_words board found =
    op_word board found.read
    ++ spaced (word_words board found.word.target found.word.space found.word.address
    ++ (known_words board found.value found.write
    ++ codes "by" ∷ map (op_word board) found.chain)) []

-- all lines, without the count behind them
abbrev pub findings_text : Board → List Finding → List ℕ
findings_text board found = text_of (map (finding_line board) found)

-- the lines, and behind them `told N`
abbrev pub audit_of : Board → List Finding → List ℕ
audit_of board found = findings_text board found ++ line_text (codes "told" ∷ decimal (length found) ∷ [])
