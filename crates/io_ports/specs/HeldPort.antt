-- A source over what was read before.
use Rattle.std.specs.Prelude.{ℕ, ◌≡◌, ◌<◌, ◌≤◌, ◌++◌, Bool, true, false, List, length, drop, Option, IfSome, MatchOption, Result, Ok, Err}
use Rattle.std.specs.Io.KnownBytes.{Consumes, IsAtEnd}
use Rattle.io_ports.specs.declared.failed.Failed.{Failed}
use Rattle.io_ports.specs.Faults.{next_count, Rose}

-- what such a source holds
pub record HeldState : Type 0 where
  -- all its bytes, and those that it still gives
  pub bytes : List ℕ
  pub rest : List ℕ
  -- at their end it fails, where the reading of them failed there
  pub fails : Bool
  -- how many calls failed
  pub faults : ℕ
  -- it lends them to nobody, and gives them up to who asks
  pub gives : Bool

-- the source after a call
abbrev pub held_after : HeldState → Result ℕ Failed → HeldState
held_after source (Ok n) = record source { rest = drop n source.rest }
held_after source (Err _) = record source { faults = next_count source.faults }

-- what was read of another source, to its end, to its first fault, or to so many bytes
pub record IsReadAhead (held left : Option (List ℕ)) (before now most : ℕ) (source : HeldState) : Type 0 where
  pub read : Consumes held left source.rest
  pub within : length source.rest ≤ most
  pub at_end : source.fails ≡ false → length source.rest < most → IsAtEnd left
  pub failed : source.fails ≡ true → Rose before now
  pub clean : source.fails ≡ false → now ≡ before
  pub whole : source.bytes ≡ source.rest
  pub faultless : source.faults ≡ 0

-- the next so many bytes were put behind those read before; none only at the end, and just where no number is told
-- there was a fault
pub record ReadsOn (held left : Option (List ℕ)) (before now : ℕ) (old new : List ℕ) (count : Option ℕ) : Type 0 where
  pub piece : List ℕ
  pub read : Consumes held left piece
  pub behind : new ≡ old ++ piece
  pub long : IfSome count (λ n. length piece ≡ n)
  pub at_end : MatchOption count (Rose before now) (λ n. n ≡ 0 → IsAtEnd left)
  pub clean : IfSome count (λ _. now ≡ before)
