-- The places of what landed in a dword, along the programs of the authors.
use Rattle.std.specs.Prelude.{◌≡◌, ℕ, ◌<◌, ◌≤◌, ◌-◌, Bool, true, false, not, List, [], length, Option, Some, None, ◌==◌, ◌&&◌, nat_lt, get_or, slice_get}
use Rattle.pci_command.specs.declared.op_id.OpId.{OpId}

-- of two operations of one program, the second does not stand before the first
abbrev pub in_order : OpId → OpId → Bool
in_order p q = p.master == q.master && not (nat_lt q.index p.index)

-- where both are there
abbrev pub in_order_at : Option OpId → Option OpId → Bool
in_order_at None q = false
in_order_at (Some p) None = false
in_order_at (Some p) (Some q) = in_order p q

-- the place of this index on a track
abbrev pub place : List ℕ → ℕ → ℕ
place track index = get_or track index 0

-- rising places, at which operations of one master stand in the order of its program
pub record Rises (ops : List OpId) (track : List ℕ) : Type 0 where
  pub inside : (a : ℕ) → a < length track → place track a < length ops
  pub later : (a b : ℕ) → a < b → b < length track → place track a < place track b
  pub order : (a b : ℕ) → a ≤ b → b < length track → in_order_at (slice_get ops (place track a)) (slice_get ops (place track b)) ≡ true

-- the track of this number
abbrev pub track_at : List (List ℕ) → ℕ → List ℕ
track_at tracks number = get_or tracks number []

-- a place stands in one of the tracks
pub record IsOn (tracks : List (List ℕ)) (at : ℕ) : Type 0 where
  pub number : ℕ
  pub is_track : number < length tracks
  pub index : ℕ
  pub within : index < length (track_at tracks number)
  pub is : place (track_at tracks number) index ≡ at

-- the tracks rise, and each place is on one
pub record Tracked (ops : List OpId) (tracks : List (List ℕ)) : Type 0 where
  pub each : (number : ℕ) → number < length tracks → Rises ops (track_at tracks number)
  pub all : (at : ℕ) → at < length ops → IsOn tracks at

-- the operation at a place, where there is one
abbrev pub op_on : List OpId → Option ℕ → Option OpId
op_on ops None = None
op_on ops (Some at) = slice_get ops at

-- the operation at the last place of a track
abbrev pub last_on : List OpId → List ℕ → Option OpId
last_on ops track = op_on ops (slice_get track (length track - 1))

-- an operation does not stand before the last of a track
abbrev pub goes_on : List OpId → List ℕ → OpId → Bool
goes_on ops track o = in_order_at (last_on ops track) (Some o)

-- a track that an operation goes on with
pub record GoesOn (ops : List OpId) (tracks : List (List ℕ)) (o : OpId) (number : ℕ) : Type 0 where
  pub is_track : number < length tracks
  pub behind : goes_on ops (track_at tracks number) o ≡ true
