-- What the passes over acts and lines find out.
use Rattle.std.specs.Prelude.{◌≡◌, ℕ, ◌+◌, ◌*◌, ◌<◌, ◌≤◌, Bool, true, false, List, length, Some, ◌⊎◌, slice_get, get_or, set}
use Rattle.pci_command.specs.declared.op_id.OpId.{OpId}
use Rattle.board_model.specs.declared.agents.Master.{Master}
use Rattle.board_model.specs.declared.board.Board.{Board}
use Rattle.history_model.specs.declared.event.Event.{Event}
use Rattle.history_model.specs.declared.event.Event.TheVariants.{Act, Arrive}
use Rattle.observe_told.specs.declared.seen.Seen.{Seen}
use Rattle.observe_told.specs.declared.seen.Log.{Log}
use Rattle.observe_told.specs.Addresses.{phases_of_line}
use Rattle.observe_log.specs.declared.shown.Shown.{Shown}
use Rattle.observe_log.specs.Rows.{row_of}
use Rattle.observe_log.specs.Acts.{Follows, is_over}
use Rattle.observe_log.specs.Told.{acts_of_line, InOrder, presents, latches_one, InTurn, IsBegun}

-- the event is no arrival
abbrev pub is_act : Event → Bool
is_act (Act on by o step place) = true
is_act (Arrive lane mark) = false

-- there is a line for each act, and the acts of each line follow what was shown of it, up to what is shown
pub record AllFollow (log : Log) (board : Board) (acts : List Event) (lines : List ℕ) (before shown : List Shown) : Type 0 where
  pub beside : length lines ≡ length acts
  pub each : length shown ≡ length before
  pub of_lines : (k n : ℕ) → slice_get lines k ≡ Some n → n < length log.lines
  pub follow : (n : ℕ) (seen : Seen) (first last : Shown) → slice_get log.lines n ≡ Some seen → slice_get before n ≡ Some first
      → slice_get shown n ≡ Some last → Follows log board seen first (acts_of_line n acts lines) last

-- all of each line is shown
pub record AllOver (log : Log) (shown : List Shown) : Type 0 where
  pub over : (n : ℕ) (seen : Seen) (last : Shown) → slice_get log.lines n ≡ Some seen → slice_get shown n ≡ Some last
      → is_over (row_of log seen) seen (phases_of_line log seen) last ≡ true

-- the lines of acts stand in order
pub record AllInOrder (seen : List Seen) (lines : List ℕ) : Type 0 where
  pub order : (j k m n : ℕ) (earlier later : Seen) → j < k → slice_get lines j ≡ Some m → slice_get lines k ≡ Some n
      → slice_get seen m ≡ Some earlier → slice_get seen n ≡ Some later → InOrder earlier later m n

-- nothing is begun
pub record AreNone (turns : List ℕ) : Type 0 where
  pub none : (master n : ℕ) → slice_get turns master ≡ Some n → n ≡ 0

-- the turn of a master behind an act of its operation of that index, a Latch or not: twice as many as its operations are over,
-- and one more where one is open
abbrev pub turn_behind : Bool → ℕ → ℕ
turn_behind true index = 2 * index + 1
turn_behind false index = 2 * index + 2

-- behind one act more: of the operation that is open, of the one that comes next for its master, or of no master's own
pub record GoesOn (act : Event) (before turns : List ℕ) : Type 0 where
  pub more : (master index n : ℕ) → slice_get turns master ≡ Some n → 2 * index < n
      → ((m : ℕ) × (slice_get before master ≡ Some m) × (2 * index < m)) ⊎ (presents master index act ≡ true)
  pub within : (master : ℕ) → get_or before master 0 ≤ get_or turns master 0
  pub last : (master index : ℕ) → presents master index act ≡ true
      → (get_or before master 0 ≤ 2 * index + 1) × (turn_behind (latches_one act) index ≤ get_or turns master 0)

-- a master's operation has an act: it is the one that is open, or the next one where none is
pub record TakesTurn (o : OpId) (latches : Bool) (before turns : List ℕ) : Type 0 where
  pub turn : ℕ
  pub was : slice_get before o.master ≡ Some turn
  pub open_or_next : (2 * o.index ≤ turn) × (turn ≤ 2 * o.index + 1)
  pub put : turns ≡ set before o.master (turn_behind latches o.index)

-- of each master as many operations are begun as these turns say, none behind them, and one after the other
pub record AreBegun (acts : List Event) (count : ℕ) (turns : List ℕ) : Type 0 where
  pub first : (master index n : ℕ) → slice_get turns master ≡ Some n → 2 * index < n → IsBegun acts count master index
  pub most : (k master index : ℕ) (act : Event) → k < count → slice_get acts k ≡ Some act → presents master index act ≡ true
      → turn_behind (latches_one act) index ≤ get_or turns master 0
  pub in_turn : (j k master i index : ℕ) (earlier later : Event) → j < k → k < count → slice_get acts j ≡ Some earlier
      → slice_get acts k ≡ Some later → presents master i earlier ≡ true → presents master index later ≡ true → InTurn earlier i index

-- no master has more operations than that
pub record AllBegin (masters : List Master) (turns : List ℕ) : Type 0 where
  pub all : (master : ℕ) (agent : Master) → slice_get masters master ≡ Some agent → (n : ℕ) × (slice_get turns master ≡ Some n) × (2 * length agent.ops ≤ n + 1)
