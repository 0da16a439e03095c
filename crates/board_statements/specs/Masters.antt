-- The lines of masters, and those that discard or drop.
use Rattle.std.specs.Prelude.{ℕ, Bool, true, false, List, [], ◌∷◌, length, take, Result, Ok, Err, codes, nat_lt, if◌then◌else◌}
use Rattle.std.specs.Str.{bytes_eq}
use Rattle.pci_command.specs.declared.command.Command.{Command}
use Rattle.pci_command.specs.declared.command.Command.TheVariants.{IoWrite}
use Rattle.pci_command.specs.declared.command.Space.{Space}
use Rattle.pci_command.specs.declared.phases.Phase.{Phase}
use Rattle.pci_command.specs.Command.{space_of}
use Rattle.board_model.specs.Limits.{most_dwords, most_tries}
use Rattle.board_model.specs.declared.op.Op.TheVariants.{Read, Write, CfgRead, CfgWrite, Poll}
use Rattle.board_model.specs.declared.op.Want.{Want}
use Rattle.board_model.specs.declared.board.Planned.{Planned}
use Rattle.text_faults.specs.declared.board_line.LineFault.{LineFault}
use Rattle.text_faults.specs.declared.board_line.LineFault.TheVariants.{WrongWord}
use Rattle.board_statements.specs.declared.statement.Statement.{Statement}
use Rattle.board_statements.specs.declared.statement.Statement.TheVariants.{NewMaster, Does, Discards, Drops}
use Rattle.board_statements.specs.Words.{◌>>=◌, ◌>>◌, Reader, give, choice, optional, one_word, and_part, with_rest, hex, decimal, fixed, name, long, data_word, data_word_of}
use Rattle.board_statements.specs.Targets.{is_wide_in}

-- `master NAME on B`
unfoldable pub master_form : Reader Statement
master_form = do
  named ← name
  fixed (codes "on")
  bus ← decimal 0 255
  give (NewMaster named bus)

-- HEX of what a read should return, which is no part of the board
abbrev pub expected_form : Reader (Unit {0})
expected_form = do
  hex 8
  give tt

-- behind a read: `is HEX`, or `any`, or nothing
abbrev pub tail_form : Reader (Unit {0})
tail_form = choice (codes "is") expected_form (optional (codes "any") tt (give tt))

-- ADDR of a read in memory or in I/O space, and its tail
unfoldable pub read_form : Bool → Command → Reader Statement
read_form wide command = do
  address ← long (is_wide_in wide (space_of command))
  tail_form
  give (Does (Read command address) false)

-- each of these words as a data word
abbrev pub data_words : List (List ℕ) → Result (List Phase) LineFault
data_words [] = Ok []
data_words (word ∷ words) =
    and_part (data_word_of word) (λ phase. and_part (data_words words) (λ phases. Ok (phase ∷ phases)))

-- all words that are left as data words
abbrev pub other_words : Reader (List Phase)
other_words words = with_rest (data_words words) []

-- as many as a burst may have, and whether there are more
abbrev pub as_many : List Phase → List Phase × Bool
as_many phases = (take most_dwords phases, nat_lt most_dwords (length phases))

-- one data word or more, up to the end of the line
unfoldable pub burst_words : Reader (List Phase × Bool)
burst_words = do
  first ← data_word
  others ← other_words
  give (as_many (first ∷ others))

-- ADDR WORD.. of a write in memory
unfoldable pub burst_write_form : Bool → Command → Reader Statement
burst_write_form wide command = do
  address ← long wide
  burst ← burst_words
  give (Does (Write command address burst.0) burst.1)

-- ADDR WORD of a write in I/O space
unfoldable pub port_write_form : Reader Statement
port_write_form = do
  address ← hex 8
  phase ← data_word
  give (Does (Write IoWrite address (phase ∷ [])) false)

-- B D R of a read in configuration space, and its tail
unfoldable pub register_read_form : Reader Statement
register_read_form = do
  bus ← decimal 0 255
  device ← decimal 0 31
  register ← decimal 0 63
  tail_form
  give (Does (CfgRead bus device register) false)

-- B D R WORD of a write in configuration space
unfoldable pub register_write_form : Reader Statement
register_write_form = do
  bus ← decimal 0 255
  device ← decimal 0 31
  register ← decimal 0 63
  phase ← data_word
  give (Does (CfgWrite bus device register phase) false)

-- ADDR MASK VALUE TRIES of a poll in memory or in I/O space, for the value under the mask or for any that differs
unfoldable pub poll_form : Bool → Space → Bool → Reader Statement
poll_form wide space differs = do
  address ← long (is_wide_in wide space)
  mask ← hex 8
  value ← hex 8
  tries ← decimal 1 most_tries
  give (Does (Poll space address (record { mask = mask; wanted = value; differs = differs }) tries) false)

-- `down` or `up`
unfoldable pub direction_of_word : List ℕ → Result Bool LineFault
direction_of_word word =
    if bytes_eq word (codes "down") then Ok false
    else if bytes_eq word (codes "up") then Ok true
    else Err WrongWord

-- B, the direction of the lane, and K behind `discard` or `drop`
unfoldable pub planned_form : Reader Planned
planned_form = do
  bus ← decimal 0 255
  up ← one_word direction_of_word
  count ← decimal 1 1000000
  give (record { bus = bus; up = up; count = count })

-- `discard B down K` and the like
unfoldable pub discard_form : Reader Statement
discard_form = do
  planned ← planned_form
  give (Discards planned)

-- `drop B down K` and the like
unfoldable pub drop_form : Reader Statement
drop_form = do
  planned ← planned_form
  give (Drops planned)
