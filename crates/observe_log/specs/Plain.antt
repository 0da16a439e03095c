-- A line as it stands in a log as a rule: of bytes that a line may have, and without a comment; and its words, one by one.
use Rattle.std.specs.Prelude.{◌≡◌, ◌≤◌, ℕ, Bool, true, not, ◌&&◌, List, [], ◌∷◌, length, Option, Some, None, Result, Ok, Err}
use Rattle.board_text.specs.Lines.{is_allowed}
use Rattle.board_text.specs.Tokens.{is_comment, uncommented, words_of}
use Rattle.text_faults.specs.declared.board_line.LineFault.{LineFault}
use Rattle.observe_log.specs.Boards.{is_readable}

-- a byte that a line may have, and with which no comment begins
abbrev pub is_plain : ℕ → Bool
is_plain byte = is_allowed byte && not (is_comment byte)

-- any other byte
abbrev pub is_no_plain : ℕ → Bool
is_no_plain byte = not (is_plain byte)

-- a line that can be read, so it is short, without a comment
pub record IsPlain (line : List ℕ) : Type 0 where
  pub readable : is_readable line ≡ true
  pub whole : uncommented line ≡ line
  pub short : length line ≤ 256

-- a word is the only one of a line of its bytes
pub record StandsAlone (word : List ℕ) : Type 0 where
  pub alone : words_of word ≡ word ∷ []

-- a value was read of a word exactly where it is of its kind
abbrev pub Reads : {A : Type 0} → Option A → Result A LineFault → Type 0
Reads (Some value) read = read ≡ Ok value
Reads None read = (fault : LineFault) × (read ≡ Err fault)
