-- What the loops over acts keep.
use Rattle.std.specs.Prelude.{◌≡◌, ℕ, ◌+◌, ◌*◌, ◌<◌, ◌≤◌, true, List, length, drop, Some, slice_get, slice_index}
use Rattle.board_model.specs.declared.agents.Master.{Master}
use Rattle.board_model.specs.declared.board.Board.{Board}
use Rattle.history_model.specs.declared.event.Event.{Event}
use Rattle.law_early.specs.Early.{acts_of}
use Rattle.observe_told.specs.declared.seen.Seen.{Seen}
use Rattle.observe_told.specs.declared.seen.Log.{Log}
use Rattle.observe_log.specs.declared.shown.Shown.{Shown}
use Rattle.observe_told.specs.Addresses.{phases_of_line}
use Rattle.observe_log.specs.Rows.{row_of}
use Rattle.observe_log.specs.Acts.{Follows, is_over}
use Rattle.observe_log.specs.Told.{acts_of_line, InOrder}

-- what the acts to come make of what is shown so far, all acts make of what was shown before
pub record Reaches (log : Log) (board : Board) (acts : List Event) (lines : List ℕ) (before : List Shown) (now : List Shown) (later : List Event) (later_lines : List ℕ) : Type 0 where
  pub follow : (n : ℕ) (seen : Seen) (first between last : Shown) → slice_get log.lines n ≡ Some seen → slice_get before n ≡ Some first
      → slice_get now n ≡ Some between → Follows log board seen between (acts_of_line n later later_lines) last
      → Follows log board seen first (acts_of_line n acts lines) last

-- the first so many acts stand in order; of their lines none stands behind the last one of its bus, and none began later than this
pub record StandSo (seen : List Seen) (lines : List ℕ) (count : ℕ) (last : List ℕ) (latest_start : ℕ) : Type 0 where
  pub buses : length last ≡ 256
  pub order : (j k m n : ℕ) (earlier later : Seen) → j < k → k < count → slice_get lines j ≡ Some m → slice_get lines k ≡ Some n
      → slice_get seen m ≡ Some earlier → slice_get seen n ≡ Some later → InOrder earlier later m n
  pub places : (j m : ℕ) (earlier : Seen) → j < count → slice_get lines j ≡ Some m → slice_get seen m ≡ Some earlier → m ≤ slice_index last earlier.bus
  pub starts : (j m : ℕ) (earlier : Seen) → j < count → slice_get lines j ≡ Some m → slice_get seen m ≡ Some earlier → earlier.start ≤ latest_start

-- so many acts are among the first so many events; they are of lines of the log, and follow what was shown before, up to what is
-- shown now
pub record FollowSo (log : Log) (board : Board) (events : List Event) (lines : List ℕ) (before now : List Shown) (count acts : ℕ) : Type 0 where
  pub among : acts + length (acts_of (drop count events)) ≡ length (acts_of events)
  pub of_lines : (j n : ℕ) → j < acts → slice_get lines j ≡ Some n → n < length log.lines
  pub each : length now ≡ length before
  pub reaches : Reaches log board (acts_of events) lines before now (acts_of (drop count events)) (drop acts lines)

-- all of each of the first so many lines is shown
pub record OverSo (log : Log) (shown : List Shown) (count : ℕ) : Type 0 where
  pub over : (n : ℕ) (seen : Seen) (last : Shown) → n < count → slice_get log.lines n ≡ Some seen → slice_get shown n ≡ Some last
      → is_over (row_of log seen) seen (phases_of_line log seen) last ≡ true

-- none of the first so many masters has more operations than are begun
pub record BeginSo (masters : List Master) (turns : List ℕ) (count : ℕ) : Type 0 where
  pub all : (master : ℕ) (agent : Master) → master < count → slice_get masters master ≡ Some agent
      → (n : ℕ) × (slice_get turns master ≡ Some n) × (2 * length agent.ops ≤ n + 1)
