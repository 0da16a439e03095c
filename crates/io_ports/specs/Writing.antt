-- A text written to a sink.
use Rattle.std.specs.Prelude.{ℕ, ◌+◌, ◌<◌, ◌≤◌, List, length, take, drop, Option}
use Rattle.std.specs.Io.KnownBytes.{Appends}

-- the sink took the front of the text, and no more of it
pub record WritesFront (before after : Option (List ℕ)) (text : List ℕ) : Type 0 where
  pub count : ℕ
  pub within : count ≤ length text
  pub written : Appends before after (take count text)

-- the sink took the next so many bytes of the text, at least one
pub record WritesPiece (before after : Option (List ℕ)) (text : List ℕ) (at count : ℕ) : Type 0 where
  pub some : 0 < count
  pub within : at + count ≤ length text
  pub written : Appends before after (take count (drop at text))
