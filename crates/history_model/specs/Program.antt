-- The programs of the masters: each presents its operations in order, and repeats one until it ends.
use Rattle.std.specs.Prelude.{ℕ, Bool, false, ◌+◌, List, [], ◌∷◌, Option, Some, None, is_some, ◌==◌, if◌then◌else◌}
use Rattle.pci_command.specs.declared.op_id.OpId.{OpId}
use Rattle.pci_command.specs.declared.op_id.Outcome.{Outcome}
use Rattle.pci_command.specs.declared.op_id.Outcome.TheVariants.{Value, Written, Aborted, Nobody}
use Rattle.board_model.specs.declared.op.Op.{Op}
use Rattle.board_model.specs.declared.op.Op.TheVariants.{Read as ReadOp, Write, CfgRead, CfgWrite, Poll}
use Rattle.board_model.specs.declared.op.Want.{Want}
use Rattle.board_model.specs.declared.board.Board.{Board}
use Rattle.board_model.specs.Wants.{wants}
use Rattle.board_model.specs.Requests.{op_of}
use Rattle.history_model.specs.declared.event.By.{By}
use Rattle.history_model.specs.declared.event.By.TheVariants.{Master, Lane as ByLane}
use Rattle.history_model.specs.declared.event.Step.{Step}
use Rattle.history_model.specs.declared.event.Step.TheVariants.{Land, Part, Read, Accept, Latch, Take, Stall, MasterAbort, TargetAbort}
use Rattle.history_model.specs.declared.event.Event.{Event}
use Rattle.history_model.specs.declared.event.Event.TheVariants.{Act, Arrive}

-- how a step ends the operation of a master that presented it; a latch, a stall and a part end nothing
abbrev pub master_outcome : Step → Option Outcome
master_outcome Land = Some Written
master_outcome (Part phases) = None
master_outcome (Read value) = Some (Value value)
master_outcome Accept = Some Written
master_outcome Latch = None
master_outcome (Take outcome) = Some outcome
master_outcome Stall = None
master_outcome MasterAbort = Some Nobody
master_outcome TargetAbort = Some Aborted

-- an operation that ended, and how
pub record Ending : Type 0 where
  pub op : OpId
  pub outcome : Outcome

-- the operation ended with the outcome, where there is one
abbrev pub ending_of : OpId → Option Outcome → Option Ending
ending_of o None = None
ending_of o (Some outcome) = Some (record { op = o; outcome = outcome })

-- an operation ends at its master: what a lane presents ends no operation there
abbrev pub ended_by : By → OpId → Step → Option Ending
ended_by Master o step = ending_of o (master_outcome step)
ended_by (ByLane lane) o step = None

-- the operation that an event ends at its master, if it ends one
abbrev pub ended : Event → Option Ending
ended (Act on by o step place) = ended_by by o step
ended (Arrive lane mark) = None

-- the operation, where it is there
abbrev pub present : Board → OpId → Option OpId
present board o = if is_some (op_of board o) then Some o else None

-- the next operation of the program, and the next try of a poll
abbrev pub next_op : Board → OpId → Option OpId
next_op board o = present board (record { master = o.master; index = o.index + 1; attempt = 0 })

-- the next try of the same poll
abbrev pub next_try : Board → OpId → Option OpId
next_try board o = present board (record { master = o.master; index = o.index; attempt = o.attempt + 1 })

-- a poll is met by a value that it waits for
abbrev pub meets : Want → Outcome → Bool
meets want (Value value) = wants want value
meets want Written = false
meets want Aborted = false
meets want Nobody = false

-- what follows an operation that ended so: after a try of a poll that was not met the next try, and
-- after its last one nothing; else the next operation
abbrev pub follows_op : Board → OpId → Outcome → Op → Option OpId
follows_op board o outcome (ReadOp command address) = next_op board o
follows_op board o outcome (Write command address phases) = next_op board o
follows_op board o outcome (CfgRead bus device register) = next_op board o
follows_op board o outcome (CfgWrite bus device register phase) = next_op board o
follows_op board o outcome (Poll space address want tries) =
    if meets want outcome then next_op board o else next_try board o

-- where the operation is there
abbrev pub follows_in : Board → OpId → Outcome → Option Op → Option OpId
follows_in board o outcome None = None
follows_in board o outcome (Some op) = follows_op board o outcome op

-- what follows an ending in the program of its master
abbrev pub follows : Board → Ending → Option OpId
follows board ending = follows_in board ending.op ending.outcome (op_of board ending.op)

-- the turn of a master after an event that ended an operation, or none
abbrev pub turn_after : Board → ℕ → Option OpId → Option Ending → Option OpId
turn_after board master turn None = turn
turn_after board master turn (Some ending) = if ending.op.master == master then follows board ending else turn

-- the operation that is a master's turn after a history, newest event first; none where its program ended
abbrev pub turn_of : Board → List Event → ℕ → Option OpId
turn_of board [] master = present board (record { master = master; index = 0; attempt = 0 })
turn_of board (e ∷ h) master = turn_after board master (turn_of board h master) (ended e)
