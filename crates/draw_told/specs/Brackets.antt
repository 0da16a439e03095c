-- The brackets beside the list: one for each line of the audit, from its landing to its read.
use Rattle.std.specs.Prelude.{ℕ, nat_lt, min, max, List, [], ◌∷◌, ◌++◌, length, Option, Some, None, if◌then◌else◌}
use Rattle.std.specs.List.{position_from}
use Rattle.std.proofs.Math.ListN.{set}
use Rattle.draw_told.specs.declared.told.Span.{Span}

-- which track each has, and the last row of the last bracket of each track
pub record Standing : Type 0 where
  pub tracks : List (Option ℕ)
  pub ends : List ℕ

-- no more than eight stand side by side
abbrev pub with_new : ℕ → Standing → Standing
with_new high standing =
    if nat_lt (length standing.ends) 8
    then record { tracks = standing.tracks ++ Some (length standing.ends) ∷ []; ends = standing.ends ++ high ∷ [] }
    else record { tracks = standing.tracks ++ None ∷ []; ends = standing.ends }

-- the track of that number is used again; where there is none a new one is tried
abbrev pub with_found : ℕ → Option ℕ → Standing → Standing
with_found high None standing = with_new high standing
with_found high (Some track) standing = record { tracks = standing.tracks ++ Some track ∷ []; ends = set standing.ends track high }

-- one bracket more has the least track whose last bracket ended before it, or else a new one, if there is room
abbrev pub with_bracket : Span → Standing → Standing
with_bracket span standing =
    with_found (max span.landed span.read) (position_from (λ end. nat_lt end (min span.landed span.read)) 0 standing.ends) standing

-- these brackets, one behind the other
abbrev pub with_brackets : List Span → Standing → Standing
with_brackets [] standing = standing
with_brackets (span ∷ spans) standing = with_brackets spans (with_bracket span standing)

-- all brackets, in the order of the lines
unfoldable pub brackets_of : List Span → Standing
brackets_of spans = with_brackets spans (record { tracks = []; ends = [] })
