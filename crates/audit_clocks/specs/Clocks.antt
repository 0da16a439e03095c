-- What is kept of what each master knows, and what each step makes of it.
use Rattle.std.specs.Prelude.{◌≡◌, ◌<◌, ℕ, Bool, false, max, List, [], map, length, Option, None, ◌==◌, get_or, if◌then◌else◌}
use Rattle.pci_command.specs.declared.op_id.OpId.{OpId}
use Rattle.audit_clocks.specs.Rows.{number, own, row, reached, since_in}
use Rattle.audit_clocks.specs.Tables.{value_of, list_in, Puts}

-- all that is kept between two events
pub record ClockState : Type 0 where
  -- by each master of each author
  pub known : List (List (List OpId))
  -- by each operation as its master last presented it
  pub starts : List (OpId × List ℕ)
  -- by what each operation last read
  pub taught : List (OpId × List ℕ)

-- what a master knows
abbrev pub known_at : List (List (List OpId)) → ℕ → List (List OpId)
known_at known master = get_or known master []

-- with which of its operations a master came to know of this one
abbrev pub since_at : List (List (List OpId)) → ℕ → OpId → Option OpId
since_at known master o = since_in (known_at known master) o

-- an operation knows what its master knows
pub record Presented (o : OpId) (old new : ClockState) : Type 0 where
  pub known : new.known ≡ old.known
  pub taught : new.taught ≡ old.taught
  pub starts : o.master < length old.known → Puts o (map length (known_at old.known o.master)) old.starts new.starts

-- what is told at an end: nothing without a value
abbrev pub told_at : List (OpId × List ℕ) → OpId → Bool → Option (List ℕ)
told_at taught o has_value = if has_value then value_of o taught else None

-- the master of an operation knows it, and what it was told; each other knows what it knew
pub record Learns (o : OpId) (told : List ℕ) (old new : List (List (List OpId))) : Type 0 where
  pub masters : length new ≡ length old
  pub others : (master : ℕ) → (o.master == master) ≡ false → known_at new master ≡ known_at old master
  pub authors : length (known_at new o.master) ≡ length (known_at old o.master)
  pub known : (author : ℕ) → o.master < length old → author < length (known_at old o.master)
      → row (known_at new o.master) author ≡ reached o (max (number told author) (own o author)) (row (known_at old o.master) author)

-- an operation ended
pub record Ended (o : OpId) (has_value : Bool) (old new : ClockState) : Type 0 where
  pub starts : new.starts ≡ old.starts
  pub taught : new.taught ≡ old.taught
  pub learns : Learns o (list_in (told_at old.taught o has_value)) old.known new.known
