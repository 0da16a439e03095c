-- Tables by operation and by dword.
use Rattle.std.specs.Prelude.{◌≡◌, ℕ, Bool, List, [], ◌++◌, if◌then◌else◌, Option, Some, None, ◌&&◌, ◌==◌}
use Rattle.std.specs.Map.{lookup}
use Rattle.pci_command.specs.declared.op_id.OpId.{OpId}
use Rattle.pci_command.specs.Same.{same_op, same_space}
use Rattle.board_model.specs.declared.word.Word.{Word}
use Rattle.board_model.specs.Ways.{Dword}

-- the value of an operation, where it has one
abbrev pub value_of : {V : Type 0} → OpId → List (OpId × V) → Option V
value_of o entries = lookup (same_op o) entries

-- the list, empty where there is none
abbrev pub list_in : {X : Type 0} → Option (List X) → List X
list_in None = []
list_in (Some xs) = xs

-- the numbers of an operation; none where it has none
abbrev pub numbers_of : OpId → List (OpId × List ℕ) → List ℕ
numbers_of o entries = list_in (value_of o entries)

-- a dword by which landings are noted, as histories have it
abbrev pub dword : Word → Dword
dword word = record { target = word.target; space = word.space; address = word.address }

-- the same dword of the same target
abbrev pub same_word : Word → Word → Bool
same_word a b = a.target == b.target && same_space a.space b.space && a.address == b.address

-- the writes of the data phases that landed in a dword
abbrev pub writes_in : Word → List (Word × List OpId) → List OpId
writes_in word entries = list_in (lookup (same_word word) entries)

-- the dword's list has these behind those before, and each other has its own
pub record Lands (old new : List (Word × List OpId)) (more : Word → List OpId) : Type 0 where
  pub each : (word : Word) → writes_in word new ≡ writes_in word old ++ more word

-- an operation has this value, and each other has its own
pub record Puts {V : Type 0} (o : OpId) (value : V) (old new : List (OpId × V)) : Type 0 where
  pub each : (q : OpId) → value_of q new ≡ (if same_op o q then Some value else value_of q old)

-- the value of a dword, where it has one
abbrev pub found_in : {V : Type 0} → Word → List (Word × V) → Option V
found_in word entries = lookup (same_word word) entries

-- a dword has no value, and each other has its own
pub record TakesWord {V : Type 0} (word : Word) (old new : List (Word × V)) : Type 0 where
  pub each : (q : Word) → found_in q new ≡ (if same_word word q then None else found_in q old)

-- a dword has this value, and each other has its own
pub record PutsWord {V : Type 0} (word : Word) (value : V) (old new : List (Word × V)) : Type 0 where
  pub each : (q : Word) → found_in q new ≡ (if same_word word q then Some value else found_in q old)
