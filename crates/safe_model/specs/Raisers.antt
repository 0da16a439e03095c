-- Which writes of a board can meet a poll: those that bring its word a value that meets it.
use Rattle.std.specs.Prelude.{◌≡◌, ℕ, Bool, true, false, List, [], ◌∷◌, ◌++◌, Option, Some, None, ◌&&◌, ◌==◌, if◌then◌else◌, bit_and}
use Rattle.std.specs.List.{list_all, list_any}
use Rattle.pci_command.specs.declared.command.Space.{Space}
use Rattle.pci_command.specs.declared.command.Space.TheVariants.{Mem, Io, Cfg}
use Rattle.pci_command.specs.declared.phases.Phase.{Phase}
use Rattle.pci_command.specs.declared.op_id.OpId.{OpId}
use Rattle.pci_command.specs.declared.op_id.Outcome.TheVariants.{Value}
use Rattle.pci_command.specs.Same.{same_space}
use Rattle.board_model.specs.declared.op.Want.{Want}
use Rattle.board_model.specs.declared.op.Op.{Op}
use Rattle.board_model.specs.declared.board.Board.{Board}
use Rattle.board_model.specs.Requests.{op_of, phases_of}
use Rattle.board_model.specs.Ways.{Dword}
use Rattle.board_model.specs.device.Registers.{enabled_bits}
use Rattle.history_model.specs.Program.{meets}
use Rattle.history_model.specs.Knowledge.{is_write, words_named}

-- one dword
abbrev pub same_dword : Dword → Dword → Bool
same_dword a b = a.target == b.target && same_space a.space b.space && a.address == b.address

-- of words and the data phases for them, the data phases for this word
abbrev pub phases_for : Dword → List Dword → List Phase → List Phase
phases_for word [] phases = []
phases_for word (first ∷ words) [] = []
phases_for word (first ∷ words) (phase ∷ phases) =
    (if same_dword first word then phase ∷ [] else []) ++ phases_for word words phases

-- the data phases of an operation, where it is there
abbrev pub phases_in : Option Op → List Phase
phases_in None = []
phases_in (Some op) = phases_of op

-- the data phases that an operation, where it writes, brings to the word
abbrev pub phases_to : Board → Dword → OpId → List Phase
phases_to board word w =
    if is_write board w then phases_for word (words_named board w) (phases_in (op_of board w)) else []

-- the value is one that is waited for
abbrev pub is_met_by : Want → ℕ → Bool
is_met_by want value = meets want (Value value)

-- a data phase enables all bytes that the mask looks at
abbrev pub is_whole : ℕ → Phase → Bool
is_whole mask phase = bit_and (bit_and (enabled_bits phase.enables) 0xffff_ffff) mask == mask

-- a data phase that is whole brings a value that meets the poll
abbrev pub brings_met : Want → Phase → Bool
brings_met want phase = is_met_by want (bit_and phase.value 0xffff_ffff)

-- a write brings the word a value that meets the poll
abbrev pub Raises : Board → Want → Dword → OpId → Type 0
Raises board want word f = list_any (brings_met want) (phases_to board word f) ≡ true

-- in memory or I/O space, where a write changes all bits of the bytes that are enabled
abbrev pub is_plain : Space → Bool
is_plain Mem = true
is_plain Io = true
is_plain Cfg = false

-- the word is the last of those that an operation names
abbrev pub IsLastWord : Board → Dword → OpId → Type 0
IsLastWord board word f = (earlier : List Dword) × (words_named board f ≡ earlier ++ word ∷ [])

-- a poll of which it is known what may meet it (one that is not firm is loose): it has a word; every write there writes
-- all that the mask looks at, so that the poll sees what landed last; and what meets it is the last of its write, so
-- that the write had landed whole
pub record Firm (board : Board) (p : OpId) (want : Want) (word : Dword) : Type 0 where
  pub has_word : words_named board p ≡ word ∷ []
  pub plain : is_plain word.space ≡ true
  pub whole : (f : OpId) → list_all (is_whole want.mask) (phases_to board word f) ≡ true
  pub last : (f : OpId) → Raises board want word f → IsLastWord board word f
