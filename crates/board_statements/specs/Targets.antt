-- The lines of targets.
use Rattle.std.specs.Prelude.{ℕ, Bool, false, List, Result, Ok, Err, codes, if◌then◌else◌}
use Rattle.std.specs.Str.{bytes_eq}
use Rattle.pci_command.specs.declared.command.Space.{Space}
use Rattle.pci_command.specs.declared.command.Space.TheVariants.{Mem, Io, Cfg}
use Rattle.board_model.specs.Limits.{most_dwords}
use Rattle.board_model.specs.declared.agents.Range.{Range}
use Rattle.text_faults.specs.declared.board_line.LineFault.{LineFault}
use Rattle.text_faults.specs.declared.board_line.LineFault.TheVariants.{WrongWord}
use Rattle.board_statements.specs.declared.statement.Statement.{Statement}
use Rattle.board_statements.specs.declared.statement.Statement.TheVariants.{NewTarget, Identifies, Stalls, Bursts, Claims, Aborts, Opens}
use Rattle.board_statements.specs.Words.{◌>>=◌, ◌>>◌, Reader, give, one_word, hex, decimal, fixed, name, long}

-- in a wide text, the numbers that may have 64 bits are those of memory
abbrev pub is_wide_in : Bool → Space → Bool
is_wide_in wide Mem = wide
is_wide_in wide Io = false
is_wide_in wide Cfg = false

-- `mem` or `io`
unfoldable pub space_of_word : List ℕ → Result Space LineFault
space_of_word word =
    if bytes_eq word (codes "mem") then Ok Mem
    else if bytes_eq word (codes "io") then Ok Io
    else Err WrongWord

-- the next word as a space
abbrev pub space_word : Reader Space
space_word = one_word space_of_word

-- `target NAME on B dev D`
unfoldable pub target_form : Reader Statement
target_form = do
  named ← name
  fixed (codes "on")
  bus ← decimal 0 255
  fixed (codes "dev")
  device ← decimal 0 31
  give (NewTarget named bus device)

-- `id V M`
unfoldable pub id_form : Reader Statement
id_form = do
  vendor ← hex 4
  model ← hex 4
  give (Identifies vendor model)

-- `stall T`
unfoldable pub stall_form : Reader Statement
stall_form = do
  tokens ← decimal 0 1000000
  give (Stalls tokens)

-- `burst K`
unfoldable pub burst_form : Reader Statement
burst_form = do
  phases ← decimal 1 most_dwords
  give (Bursts phases)

-- SPACE BASE SIZE behind `range` or `abort`
unfoldable pub range_form : Bool → Reader Range
range_form wide = do
  space ← space_word
  base ← long (is_wide_in wide space)
  size ← long (is_wide_in wide space)
  give (record { space = space; base = base; size = size })

-- `range SPACE BASE SIZE`
unfoldable pub claim_form : Bool → Reader Statement
claim_form wide = do
  range ← range_form wide
  give (Claims range)

-- `abort SPACE BASE SIZE`
unfoldable pub abort_form : Bool → Reader Statement
abort_form wide = do
  range ← range_form wide
  give (Aborts range)

-- `word SPACE ADDR VALUE`
unfoldable pub opening_form : Bool → Reader Statement
opening_form wide = do
  space ← space_word
  address ← long (is_wide_in wide space)
  value ← hex 8
  give (Opens (record { space = space; address = address; value = value }))
