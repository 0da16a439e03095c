-- What is kept of the writes of each word of a board.
use Rattle.std.specs.Prelude.{◌≡◌, Bool, true, false, List, [], ◌∷◌, ◌++◌, map, Option, Some, None, IfSome, if◌then◌else◌}
use Rattle.std.specs.List.{AllByRecursion}
use Rattle.pci_command.specs.declared.phases.Phase.{Phase}
use Rattle.pci_command.specs.declared.op_id.OpId.{OpId}
use Rattle.board_model.specs.declared.board.Board.{Board}
use Rattle.board_model.specs.declared.word.Word.{Word}
use Rattle.board_model.specs.Requests.{op_of}
use Rattle.board_model.specs.Ways.{Dword, dwords_from}
use Rattle.history_model.specs.Knowledge.{is_write, words_named}
use Rattle.law_lanes.specs.order.Order.{is_posted_op}
use Rattle.safe_model.specs.Raisers.{same_dword, phases_in, phases_to}
use Rattle.safe_model.specs.largest.Tests.{writes_of, is_last}
use Rattle.audit_clocks.specs.Tables.{list_in, found_in, dword}
use Rattle.board_writes.specs.declared.writers.write.WordWrite.{WordWrite}

-- the operation of a write that is kept
abbrev pub op_in : WordWrite → OpId
op_in write = write.op

-- what is kept of a write of a word is so
pub record IsWordWrite (board : Board) (word : Dword) (write : WordWrite) : Type 0 where
  -- it brings the word this data phase, and no other
  pub brings : phases_to board word write.op ≡ write.phase ∷ []
  pub posted : write.posted ≡ is_posted_op board write.op
  pub last : write.last ≡ is_last word (words_named board write.op)

-- of these writes of a word what is kept is so
pub record AreWrites (board : Board) (word : Dword) (ops : List OpId) (writes : List WordWrite) : Type 0 where
  pub ops_are : map op_in writes ≡ ops
  pub each : AllByRecursion (IsWordWrite board word) writes

-- what is kept of the writes of a word
abbrev pub writes_at : Word → List (Word × List WordWrite) → List WordWrite
writes_at word entries = list_in (found_in word entries)

-- of each word its writes are kept
pub record ListsWrites (board : Board) (entries : List (Word × List WordWrite)) : Type 0 where
  pub of_word : (word : Word) → AreWrites board (dword word) (writes_of board (dword word)) (writes_at word entries)

-- of each word that is there these are its writes
pub record KeepsLists (entries lists : List (Word × List WordWrite)) : Type 0 where
  pub of_word : (word : Word) → IfSome (found_in word lists) (λ writes. writes ≡ writes_at word entries)

-- How they are found.

-- the dwords of data phases from the first one on, where there is one
abbrev pub words_from : Option Word → List Phase → List Dword
words_from None phases = []
words_from (Some word) phases = dwords_from word.target word.space word.address phases

-- there is none
abbrev pub is_none_of : {X : Type 0} → List X → Bool
is_none_of [] = true
is_none_of (x ∷ xs) = false

-- of a write's words and the data phases for them, what is kept for this word
abbrev pub kept_for : OpId → Bool → Dword → List Dword → List Phase → List WordWrite
kept_for o posted word [] phases = []
kept_for o posted word (first ∷ words) [] = []
kept_for o posted word (first ∷ words) (phase ∷ phases) =
    (if same_dword first word then record { op = o; phase = phase; posted = posted; last = is_none_of phases } ∷ [] else [])
    ++ kept_for o posted word words phases

-- what is kept of an operation for a word: nothing where it reads
abbrev pub kept_of : Board → Dword → OpId → List WordWrite
kept_of board word o =
    if is_write board o then kept_for o (is_posted_op board o) word (words_named board o) (phases_in (op_of board o)) else []

-- the same of these operations
abbrev pub kept_by : Board → Dword → List OpId → List WordWrite
kept_by board word [] = []
kept_by board word (o ∷ ops) = kept_of board word o ++ kept_by board word ops

-- each word has these writes more, behind those that it has
pub record Adds (more : Word → List WordWrite) (old new : List (Word × List WordWrite)) : Type 0 where
  pub each : (word : Word) → writes_at word new ≡ writes_at word old ++ more word
