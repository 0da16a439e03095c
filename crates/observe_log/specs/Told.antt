-- Which boards and acts are told by a log.
use Rattle.std.specs.Prelude.{◌≡◌, ℕ, ◌<◌, ◌≤◌, Bool, true, false, ◌&&◌, List, [], ◌∷◌, length, Some, ◌==◌, if◌then◌else◌, slice_get}
use Rattle.board_model.specs.declared.board.Board.{Board}
use Rattle.board_model.specs.declared.agents.Master.{Master}
use Rattle.history_model.specs.declared.event.By.TheVariants.{Master as ByMaster, Lane as ByLane}
use Rattle.history_model.specs.declared.event.Step.{Step}
use Rattle.history_model.specs.declared.event.Step.TheVariants.{Latch}
use Rattle.history_model.specs.declared.event.Event.{Event}
use Rattle.history_model.specs.declared.event.Event.TheVariants.{Act, Arrive}
use Rattle.observe_told.specs.declared.seen.Seen.{Seen}
use Rattle.observe_told.specs.declared.seen.Log.{Log}
use Rattle.observe_log.specs.SeenBoards.{IsSeenBoard}
use Rattle.observe_log.specs.Acts.{AreActsOf}

-- of these acts, beside each the place of its line in the log, those of the line at one place
abbrev pub acts_of_line : ℕ → List Event → List ℕ → List Event
acts_of_line n [] lines = []
acts_of_line n (act ∷ acts) [] = []
acts_of_line n (act ∷ acts) (line ∷ lines) =
    if line == n then act ∷ acts_of_line n acts lines else acts_of_line n acts lines

-- the line of an earlier act, and that of a later one: on one bus in the order of the lines, and on any two buses the later
-- line did not end before the earlier one began
pub record InOrder (earlier later : Seen) (earlier_place later_place : ℕ) : Type 0 where
  pub on_bus : earlier.bus ≡ later.bus → earlier_place ≤ later_place
  pub in_time : earlier.start ≤ later.end

-- the act is of the operation of that index in the program of that master, which presents it
abbrev pub presents : ℕ → ℕ → Event → Bool
presents master index (Act on ByMaster o step place) = o.master == master && o.index == index
presents master index (Act on (ByLane lane) o step place) = false
presents master index (Arrive lane mark) = false

-- a Latch
abbrev pub is_latch : Step → Bool
is_latch Latch = true
is_latch other = false

-- the same of an event
abbrev pub latches_one : Event → Bool
latches_one (Act on by o step place) = is_latch step
latches_one (Arrive lane mark) = false

-- an act by which a master presents its operation of one index, and a later one of another index: the same operation only
-- where the earlier act is a Latch, and else a later operation
pub record InTurn (earlier : Event) (i index : ℕ) : Type 0 where
  pub upto : i ≤ index
  pub over : latches_one earlier ≡ false → i < index

-- the operation has an act of its master, among the first so many
pub record IsBegun (acts : List Event) (count master index : ℕ) : Type 0 where
  pub place : ℕ
  pub before : place < count
  pub act : Event
  pub there : slice_get acts place ≡ Some act
  pub presented : presents master index act ≡ true

-- acts of a board, oldest first, are told by a log, where the act at each place is of the line at that place
pub record AreToldBy (log : Log) (board : Board) (acts : List Event) (lines : List ℕ) : Type 0 where
  -- the board is that of what was seen
  pub board_is : IsSeenBoard log.board board
  -- each act is of a line of the log
  pub beside : length lines ≡ length acts
  pub of_lines : (k n : ℕ) → slice_get lines k ≡ Some n → n < length log.lines
  -- the acts of each line are what it shows, all of it
  pub each_line : (n : ℕ) (seen : Seen) → slice_get log.lines n ≡ Some seen → AreActsOf log board seen (acts_of_line n acts lines)
  -- they stand in the order of the lines of each bus, and of the times
  pub order : (j k m n : ℕ) (earlier later : Seen) → j < k → slice_get lines j ≡ Some m → slice_get lines k ≡ Some n
      → slice_get log.lines m ≡ Some earlier → slice_get log.lines n ≡ Some later → InOrder earlier later m n
  -- each master presents its operations one after the other
  pub turns : (j k master i index : ℕ) (earlier later : Event) → j < k → slice_get acts j ≡ Some earlier → slice_get acts k ≡ Some later
      → presents master i earlier ≡ true → presents master index later ≡ true → InTurn earlier i index
  -- no program has an operation that was not seen
  pub programs : (master index : ℕ) (agent : Master) → slice_get board.masters master ≡ Some agent → index < length agent.ops
      → IsBegun acts (length acts) master index

-- a board and acts are told by a log: for some choice of the line of each act
pub record Tells (log : Log) (board : Board) (acts : List Event) : Type 0 where
  pub lines : List ℕ
  pub told : AreToldBy log board acts lines
