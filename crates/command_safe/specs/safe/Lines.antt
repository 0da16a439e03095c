-- safe: the lines that are written of a board.
use Rattle.std.specs.Prelude.{ℕ, Bool, true, false, List, [], ◌∷◌, ◌++◌, ◌==◌, map, codes, if◌then◌else◌}
use Rattle.std.specs.Fmt.{decimal}
use Rattle.pci_command.specs.declared.command.Space.{Space}
use Rattle.pci_command.specs.declared.op_id.OpId.{OpId}
use Rattle.board_model.specs.declared.board.Board.{Board}
use Rattle.board_printer.specs.Lines.{Line, line_text, text_of}
use Rattle.board_printer.specs.Numbers.{word_text, address_text}
use Rattle.board_printer.specs.Spaces.{space_word}
use Rattle.trace_text.specs.Words.{master_name, target_name}
use Rattle.safe_model.specs.said.Said.{Said, safe, unsafe, lost, nowhere, vain, loose}
use Rattle.untagged_apart.specs.Lines.{apart_line}
use Rattle.program_status.specs.declared.counts.SafeCounts.{SafeCounts}
use Rattle.safe_said.specs.AllSaid.{Line as OpVerdict}
use Rattle.command_safe.specs.safe.Counts.{counts_of}

-- an operation, all tries of a poll as one: `NAME.INDEX`
abbrev pub place_word : Board → OpId → List ℕ
place_word board o = master_name board o.master ++ 46 ∷ decimal o.index

-- a dword: `TARGET SPACE ADDR`
abbrev pub dword_words : Board → ℕ → Space → ℕ → Line
dword_words board target space address = target_name board target ∷ space_word space ∷ address_text address ∷ []

-- where the way of an operation without a word ends: in an abort range, or at nobody
abbrev pub end_word : Bool → List ℕ
end_word true = codes "abort"
end_word false = codes "nobody"

-- `safe TARGET SPACE ADDR VALUE`, `unsafe TARGET SPACE ADDR beside OP`, `lost nobody`, `lost abort`, `nobody`, `abort`, `vain`, `loose`
abbrev pub said_words : Board → Said → Line
said_words board (safe word value) = codes "safe" ∷ (dword_words board word.target word.space word.address ++ word_text value ∷ [])
said_words board (unsafe word beside) = codes "unsafe" ∷ (dword_words board word.target word.space word.address ++ codes "beside" ∷ place_word board beside ∷ [])
said_words board (lost aborted) = codes "lost" ∷ end_word aborted ∷ []
said_words board (nowhere aborted) = end_word aborted ∷ []
said_words board vain = codes "vain" ∷ []
said_words board loose = codes "loose" ∷ []

-- the operation, and what is said of it
abbrev pub said_line : Board → OpVerdict → Line
said_line board one = place_word board one.op ∷ said_words board one.said

-- a further count: ` NAME N`, just where N is not 0
abbrev pub further : List ℕ → ℕ → Line
further name count = if count == 0 then [] else name ∷ decimal count ∷ []

-- `unsafe N lost M vain K`, and behind it the further counts
abbrev pub count_line : SafeCounts → Line
count_line counts =
    codes "unsafe" ∷ decimal counts.unsafe_reads ∷ codes "lost" ∷ decimal counts.lost ∷ codes "vain" ∷ decimal counts.vain ∷ further (codes "nowhere") counts.nowhere

-- a line for each operation of which something is said
abbrev pub said_lines : Board → List OpVerdict → List ℕ
said_lines board said = text_of (map (said_line board) said)

-- these lines, whether masters are apart, and how many of the lines tell of a fault
abbrev pub lines_of : Board → List OpVerdict → Bool → List ℕ
lines_of board said apart = said_lines board said ++ line_text (apart_line apart) ++ line_text (count_line (counts_of said))
