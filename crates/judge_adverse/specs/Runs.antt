-- A run in which a read reads before a write has begun.
use Rattle.std.specs.Prelude.{◌≡◌, Bool, true, false, not, ◌&&◌, nat_lt, length, List, Option, Some, None, if◌then◌else◌}
use Rattle.std.specs.List.{list_any}
use Rattle.pci_command.specs.declared.op_id.OpId.{OpId}
use Rattle.pci_command.specs.Same.{same_op}
use Rattle.board_model.specs.declared.board.Board.{Board}
use Rattle.board_model.specs.Requests.{op_of, reads}
use Rattle.board_model.specs.Ways.{Dword}
use Rattle.history_model.specs.declared.event.Event.{Event}
use Rattle.history_model.specs.declared.event.Event.TheVariants.{Act, Arrive}
use Rattle.history_model.specs.Knowledge.{Reading, got, has_ended, is_landing_of, is_write, words_named}
use Rattle.history_model.specs.Words.{landed}
use Rattle.history_model.specs.Runs.{Run, history_of}
use Rattle.safe_model.specs.Clocks.{is_poll}
use Rattle.judge_check.specs.Verdicts.{CompleteRun}
use Rattle.judge_adverse.specs.declared.run.Pair.{Pair}
use Rattle.judge_adverse.specs.Turns.{MayCome, NothingMayCome}

-- the operation is a read, no poll, of a word
abbrev pub reads_word : Board → OpId → Bool
reads_word board o = reads board o && not (is_poll (op_of board o)) && nat_lt 0 (length (words_named board o))

-- a read of a word, no poll, and a write of the board
pub record IsPair (board : Board) (pair : Pair) : Type 0 where
  pub reads : reads_word board pair.read ≡ true
  pub writes : is_write board pair.write ≡ true

-- until the read has ended the write is held back
abbrev pub held_back : Pair → Bool → Option OpId
held_back pair ended = if ended then None else Some pair.write

-- an act of the operation, by its master or by a bridge
abbrev pub is_act_of : OpId → Event → Bool
is_act_of w (Act on by o step place) = same_op o w
is_act_of w (Arrive lane mark) = false

-- the read has got something, and before it read that the write had not begun: nothing of it had been done, so no data
-- phase of it had landed in any word
pub record ReadsEarly (board : Board) (h : List Event) (r w : OpId) : Type 0 where
  pub reading : Reading
  pub ended : got board h r ≡ Some reading
  pub not_begun : list_any (is_act_of w) reading.before ≡ false
  pub not_landed : (word : Dword) → list_any (is_landing_of w) (landed board reading.before word) ≡ false

-- the events are a complete run in which it does
pub record IsAdverse (board : Board) (r w : OpId) (events : List Event) : Type 0 where
  pub runs : CompleteRun board events
  pub early : ReadsEarly board (history_of events) r w

-- the read has not ended in this run, and behind it nothing may be done but by the master of the write, whose turn is
-- the write or stands behind it
pub record WaitsForWrite (board : Board) (r w : OpId) (h : List Event) : Type 0 where
  pub run : Run board h
  pub not_ended : has_ended h r ≡ false
  pub nothing_else : NothingMayCome board h (Some w)

-- there is such a run
abbrev pub MayWait : Board → OpId → OpId → Type 0
MayWait board r w = (h : List Event) × WaitsForWrite board r w h

-- behind each run in which the read has not ended something else may be done
abbrev pub GoesOnElse : Board → OpId → OpId → Type 0
GoesOnElse board r w =
    (h : List Event) → Run board h → has_ended h r ≡ false → (e : Event) × MayCome board h (Some w) e
