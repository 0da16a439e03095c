-- What is known, as numbers and as rows: of each author so many operations, from the first of its program on.
use Rattle.std.specs.Prelude.{◌≡◌, ◌<◌, ℕ, max, ◌+◌, ◌-◌, List, [], ◌++◌, length, replicate, Option, get_or, slice_get, ◌==◌, if◌then◌else◌}
use Rattle.pci_command.specs.declared.op_id.OpId.{OpId}

-- that of an author; 0 where there is none
abbrev pub number : List ℕ → ℕ → ℕ
number numbers author = get_or numbers author 0

-- an operation, and those before it in its program
abbrev pub own : OpId → ℕ → ℕ
own o author = if o.master == author then o.index + 1 else 0

-- of an author, with which operation each of its operations came to be known
abbrev pub row : List (List OpId) → ℕ → List OpId
row rows author = get_or rows author []

-- so many are known at least, with this operation those that were not known before
abbrev pub reached : OpId → ℕ → List OpId → List OpId
reached o count old = old ++ replicate (count - length old) o

-- with which operation this one came to be known
abbrev pub since_in : List (List OpId) → OpId → Option OpId
since_in rows o = slice_get (row rows o.master) o.index

-- the number of each author rises to this at least
pub record Raises (old new : List ℕ) (to : ℕ → ℕ) : Type 0 where
  pub authors : length new ≡ length old
  pub each : (author : ℕ) → author < length old → number new author ≡ max (number old author) (to author)

-- the row of each author reaches this
pub record Reaches (o : OpId) (old new : List (List OpId)) (to : ℕ → ℕ) : Type 0 where
  pub authors : length new ≡ length old
  pub each : (author : ℕ) → author < length old → row new author ≡ reached o (to author) (row old author)
