-- The reads that break freshness, in the order in which their masters ended them.
use Rattle.std.specs.Prelude.{◌≡◌, ℕ, Bool, true, false, Contains, ◌+◌, List, [], ◌∷◌, ◌++◌, length, map, Option, Some, None, not, ◌&&◌, if◌then◌else◌}
use Rattle.std.specs.List.{find, list_any}
use Rattle.pci_command.specs.declared.op_id.OpId.{OpId}
use Rattle.board_model.specs.declared.board.Board.{Board}
use Rattle.board_model.specs.Ways.{Dword}
use Rattle.history_model.specs.declared.event.Event.{Event}
use Rattle.history_model.specs.Program.{Ending, ended}
use Rattle.history_model.specs.Knowledge.{Reading, has_landed, words_named}
use Rattle.safe_model.specs.Raisers.{same_dword}
use Rattle.safe_model.specs.Ops.{ops_by}
use Rattle.law_untagged.specs.Origins.{untagged_got, UntaggedTold}
use Rattle.law_untagged.specs.Heard.{untagged_was_told}

-- a read that breaks freshness, the first write for which it does, and the number, from 1, of the event that read
pub record StaleRead : Type 0 where
  pub read : OpId
  pub write : OpId
  pub event : ℕ

-- the same of what the read got, as a test
abbrev pub breaks_in : Board → List Event → OpId → OpId → Option Reading → Bool
breaks_in board h w r None = false
breaks_in board h w r (Some reading) =
    list_any (same_dword reading.word) (words_named board w) && not (has_landed reading.before w) && untagged_was_told board h w r

-- the read breaks freshness for the write
abbrev pub breaks : Board → List Event → OpId → OpId → Bool
breaks board h w r = breaks_in board h w r (untagged_got board h r)

-- a read that was told of a write, and got a word of it from a reading before the write had landed
pub record Breaks (board : Board) (h : List Event) (w r : OpId) : Type 0 where
  pub reading : Reading
  pub got : untagged_got board h r ≡ Some reading
  pub told : UntaggedTold board h w r
  pub of_word : Contains (words_named board w) reading.word
  pub not_landed : has_landed reading.before w ≡ false

-- the read with its write and event, where there is such a write
abbrev pub stale_by : OpId → Option OpId → Option Reading → List StaleRead
stale_by r None reading = []
stale_by r (Some w) None = []
stale_by r (Some w) (Some reading) = record { read = r; write = w; event = length reading.before + 1 } ∷ []

-- the read as it is listed, if it breaks freshness
abbrev pub stale_at : Board → List Event → OpId → List StaleRead
stale_at board h r = stale_by r (find (λ w. breaks board h w r) (ops_by 0 board.masters)) (untagged_got board h r)

-- the same of the operation that an event ended
abbrev pub stale_ending : Board → List Event → Option Ending → List StaleRead
stale_ending board h None = []
stale_ending board h (Some ending) = stale_at board h ending.op

-- those that the events of a front ended, by the whole history
abbrev pub stale_in : Board → List Event → List Event → List StaleRead
stale_in board h [] = []
stale_in board h (e ∷ g) = stale_in board h g ++ stale_ending board h (ended e)

-- all of a history
abbrev pub stale_of : Board → List Event → List StaleRead
stale_of board h = stale_in board h h

-- the reads in the list
abbrev pub reads_listed : Board → List Event → List OpId
reads_listed board h = map (λ (one : StaleRead). one.read) (stale_of board h)
