-- A source read to its end.
use Rattle.std.specs.Prelude.{ℕ, ◌≤◌, ◌≡◌, ◌++◌, List, length, Option}
use Rattle.std.specs.Io.KnownBytes.{Consumes, IsAtEnd}

-- these bytes, at most so many, are all that the source held
pub record ReadsWhole (held left : Option (List ℕ)) (limit : ℕ) (bytes : List ℕ) : Type 0 where
  pub read : Consumes held left bytes
  pub at_end : IsAtEnd left
  pub within : length bytes ≤ limit

-- the next so many bytes were put behind those read before; none only at the end
pub record ReadsPiece (held left : Option (List ℕ)) (before after : List ℕ) (count : ℕ) : Type 0 where
  pub piece : List ℕ
  pub read : Consumes held left piece
  pub long : length piece ≡ count
  pub behind : after ≡ before ++ piece
  pub at_end : count ≡ 0 → IsAtEnd left
