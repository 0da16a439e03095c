-- Which reading made the completion of a slot, where that is noted down.
use Rattle.std.specs.Prelude.{◌≡◌, ℕ, ◌+◌, Bool, List, Option, Some, None, length, ◌&&◌, ◌==◌}
use Rattle.std.specs.Map.{lookup}
use Rattle.board_model.specs.declared.bridge.Lane.{Lane as BridgeLane}
use Rattle.board_model.specs.declared.board.Board.{Board}
use Rattle.history_model.specs.declared.event.Event.{Event}
use Rattle.history_model.specs.World.{same_direction}
use Rattle.history_model.specs.Knowledge.{Reading}
use Rattle.audit_clocks.specs.Tables.{dword}
use Rattle.law_untagged.specs.Origins.{origins_of}
use Rattle.untagged_run.specs.Flat.{flat}
use Rattle.untagged_run.specs.declared.got.Got.{Got}
use Rattle.untagged_run.specs.declared.origins.Key.{Key}

-- what was got is the reading of that dword, by the event of that number, from 1
pub record IsGot (got : Got) (reading : Reading) : Type 0 where
  pub word : dword got.word ≡ reading.word
  pub event : got.event ≡ length reading.before + 1

-- neither is there, or what was got is the reading
abbrev pub SameGot : Option Got → Option Reading → Type 0
SameGot None None = Unit {0}
SameGot None (Some reading) = ⊥
SameGot (Some got) None = ⊥
SameGot (Some got) (Some reading) = IsGot got reading

-- what is noted of each slot: the origin of its completion, if it has one
abbrev pub Table : Type 0
Table = List (Key × Option Got)

-- the same slot of the same lane
abbrev pub same_key : Key → Key → Bool
same_key a b = a.bus == b.bus && same_direction a.up b.up && a.number == b.number

-- the slot of this number of the lane
abbrev pub key_of : BridgeLane → ℕ → Key
key_of lane number = record { bus = lane.bus; up = lane.up; number = number }

-- what is noted down of a slot
abbrev pub origin_at : Table → Key → Option Got
origin_at table key = flat (lookup (same_key key) table)

-- the origins after a history are noted down
abbrev pub KeepsOrigins : Board → List Event → Table → Type 0
KeepsOrigins board h table = (lane : BridgeLane) (number : ℕ) → SameGot (origin_at table (key_of lane number)) (origins_of board h lane number)
