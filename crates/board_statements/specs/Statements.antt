-- The lines behind the first one, by their kinds, and the first one.
use Rattle.std.specs.Prelude.{ℕ, Bool, true, false, List, [], ◌∷◌, Option, Some, None, Result, codes, if◌then◌else◌}
use Rattle.std.specs.Str.{bytes_eq}
use Rattle.text_faults.specs.declared.board_line.LineFault.{LineFault}
use Rattle.board_statements.specs.declared.keyword.LineForm.{LineForm}
use Rattle.board_statements.specs.declared.keyword.LineForm.TheVariants.{Bridge, Header, Target, Id, Stall, Burst, Range, Abort, Word, Master, Reads, WritesBurst, WritesPort, ReadsRegister, WritesRegister, Polls, Discard, Drop}
use Rattle.board_statements.specs.declared.statement.Statement.{Statement}
use Rattle.board_statements.specs.Words.{◌>>=◌, Reader, one_word, whole}
use Rattle.board_statements.specs.Keywords.{line_form}
use Rattle.board_statements.specs.Bridges.{bridge_form, header_form}
use Rattle.board_statements.specs.Targets.{target_form, id_form, stall_form, burst_form, claim_form, abort_form, opening_form}
use Rattle.board_statements.specs.Masters.{master_form, read_form, burst_write_form, port_write_form, register_read_form, register_write_form, poll_form, discard_form, drop_form}

-- what stands behind the first word of a line
unfoldable pub behind_word : Bool → LineForm → Reader Statement
behind_word wide Bridge = bridge_form wide
behind_word wide Header = header_form
behind_word wide Target = target_form
behind_word wide Id = id_form
behind_word wide Stall = stall_form
behind_word wide Burst = burst_form
behind_word wide Range = claim_form wide
behind_word wide Abort = abort_form wide
behind_word wide Word = opening_form wide
behind_word wide Master = master_form
behind_word wide (Reads command) = read_form wide command
behind_word wide (WritesBurst command) = burst_write_form wide command
behind_word wide WritesPort = port_write_form
behind_word wide ReadsRegister = register_read_form
behind_word wide WritesRegister = register_write_form
behind_word wide (Polls space differs) = poll_form wide space differs
behind_word wide Discard = discard_form
behind_word wide Drop = drop_form

-- the first word, and what stands behind it
unfoldable pub statement_form : Bool → Reader Statement
statement_form wide = do
  form ← one_word line_form
  behind_word wide form

-- the statement of the words of a line behind the first one, or its first fault; in a wide text some numbers may have
-- 64 bits
unfoldable pub statement_of : Bool → List (List ℕ) → Result Statement LineFault
statement_of wide words = whole (statement_form wide words)

-- 1, or 2 of a wide text
abbrev pub version_of : List ℕ → Option Bool
version_of word =
    if bytes_eq word (codes "1") then Some false
    else if bytes_eq word (codes "2") then Some true
    else None

-- `pciboard 1` or, of a wide text, `pciboard 2`
unfoldable pub first_line_of : List (List ℕ) → Option Bool
first_line_of [] = None
first_line_of (word ∷ []) = None
first_line_of (word ∷ version ∷ []) = if bytes_eq word (codes "pciboard") then version_of version else None
first_line_of (word ∷ version ∷ next ∷ words) = None
