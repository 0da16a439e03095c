-- What the program keeps of the tries of polls and of what masters presented.
use Rattle.std.specs.Prelude.{◌≡◌, ℕ, Bool, List, Option, Some, None, nat_lt, max, if◌then◌else◌}
use Rattle.std.specs.List.{position_from}
use Rattle.pci_command.specs.declared.op_id.OpId.{OpId}
use Rattle.pci_command.specs.Same.{same_op}
use Rattle.history_model.specs.declared.event.Event.{Event}
use Rattle.audit_clocks.specs.Tables.{value_of}
use Rattle.draw_items.specs.declared.waits.Wait.{Wait}
use Rattle.draw_items.specs.Tries.{is_pale}

-- the number, 0 where there is none
abbrev pub or_zero : Option ℕ → ℕ
or_zero None = 0
or_zero (Some n) = n

-- a poll is known by its first try
abbrev pub first_try : OpId → OpId
first_try o = record { master = o.master; index = o.index; attempt = 0 }

-- the last try that was named of a poll, or 0
abbrev pub last_of : List (OpId × ℕ) → OpId → ℕ
last_of entries o = or_zero (value_of (first_try o) entries)

-- the last tries tell which operations are pale
pub record TellsTries (events : List Event) (entries : List (OpId × ℕ)) : Type 0 where
  pub each : (o : OpId) → nat_lt o.attempt (last_of entries o) ≡ is_pale events o

-- the table after one more try was named
pub record Raises (o : OpId) (old new : List (OpId × ℕ)) : Type 0 where
  pub each : (q : OpId) → last_of new q ≡ (if same_op (first_try o) (first_try q) then max (last_of old q) o.attempt else last_of old q)

-- what is kept of how long an operation was presented
abbrev pub is_wait_of : OpId → Wait → Bool
is_wait_of o wait = same_op wait.op o

-- the places of the operations that were presented
pub record TellsPlaces (waits : List Wait) (entries : List (OpId × ℕ)) : Type 0 where
  pub each : (o : OpId) → value_of o entries ≡ position_from (is_wait_of o) 0 waits
