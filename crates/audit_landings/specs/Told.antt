-- What the landings of each dword tell, as far as they were looked at.
use Rattle.std.specs.Prelude.{◌≡◌, ◌<◌, ◌≤◌, ℕ, Bool, true, max, not, List, [], length, take, replicate, Option, Some, None, is_some, if◌then◌else◌}
use Rattle.std.specs.List.{AllByRecursion}
use Rattle.list_facts.specs.Lists.{greatest}
use Rattle.pci_command.specs.declared.op_id.OpId.{OpId}
use Rattle.board_model.specs.declared.word.Word.{Word}
use Rattle.audit_clocks.specs.Rows.{number, own}
use Rattle.audit_clocks.specs.Tables.{value_of, numbers_of, writes_in, found_in}
use Rattle.audit_landings.specs.declared.told.Told.{Told}

-- what a write that landed whole tells of an author
abbrev pub told_by : List (OpId × ℕ) → List (OpId × List ℕ) → ℕ → OpId → ℕ
told_by whole starts author o = if is_some (value_of o whole) then max (number (numbers_of o starts) author) (own o author) else 0

-- what the writes tell that landed in a dword
pub record Tells (masters : ℕ) (whole : List (OpId × ℕ)) (starts : List (OpId × List ℕ)) (writes : List OpId) (told : List ℕ) : Type 0 where
  pub authors : length told ≡ masters
  pub each : (author : ℕ) → author < masters → number told author ≡ greatest (told_by whole starts author) writes

-- a write that did not land whole
abbrev pub is_waiting : List (OpId × ℕ) → OpId → Bool
is_waiting whole o = not (is_some (value_of o whole))

-- the landings that were looked at are those whose numbers were joined, which landed whole, and those that wait
pub record ToldOf (whole : List (OpId × ℕ)) (starts : List (OpId × List ℕ)) (writes : List OpId) (told : Told) : Type 0 where
  pub within : told.count ≤ length writes
  pub joined : List OpId
  pub landed : AllByRecursion (λ o. is_some (value_of o whole) ≡ true) joined
  pub each : (author : ℕ) → author < length told.numbers → number told.numbers author ≡ greatest (told_by whole starts author) joined
  pub all : (weight : OpId → ℕ) → greatest weight (take told.count writes) ≡ max (greatest weight joined) (greatest weight told.waiting.items)

-- and there is a number for each author
pub record IsTold (masters : ℕ) (whole : List (OpId × ℕ)) (starts : List (OpId × List ℕ)) (writes : List OpId) (told : Told) : Type 0 where
  pub authors : length told.numbers ≡ masters
  pub stands : ToldOf whole starts writes told

-- so it is of each dword of which something is kept
pub record ToldsFor (masters : ℕ) (whole : List (OpId × ℕ)) (starts : List (OpId × List ℕ)) (landed : List (Word × List OpId)) (tolds : List (Word × Told)) : Type 0 where
  pub each : (word : Word) (told : Told) → found_in word tolds ≡ Some told → IsTold masters whole starts (writes_in word landed) told

-- no landing was looked at
pub record IsNothing (masters : ℕ) (told : Told) : Type 0 where
  pub count : told.count ≡ 0
  pub numbers : told.numbers ≡ replicate masters 0
  pub waiting : told.waiting.items ≡ []

-- what is kept, or else nothing
abbrev pub ToldFrom : ℕ → Option Told → Told → Type 0
ToldFrom masters None told = IsNothing masters told
ToldFrom masters (Some old) told = told ≡ old
