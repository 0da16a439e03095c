-- Turns that make nothing but tries of polls that are not met.
use Rattle.std.specs.Prelude.{ℕ, Bool, true, false, not, ◌&&◌, List, Option, Some, None}
use Rattle.std.specs.List.{list_all, list_any}
use Rattle.pci_command.specs.declared.op_id.OpId.{OpId}
use Rattle.pci_command.specs.declared.op_id.Outcome.{Outcome}
use Rattle.board_model.specs.declared.op.Want.{Want}
use Rattle.board_model.specs.declared.op.Op.{Op}
use Rattle.board_model.specs.declared.op.Op.TheVariants.{Read as ReadOp, Write, CfgRead, CfgWrite, Poll}
use Rattle.board_model.specs.declared.board.Board.{Board}
use Rattle.board_model.specs.Requests.{op_of}
use Rattle.history_model.specs.declared.event.By.{By}
use Rattle.history_model.specs.declared.event.By.TheVariants.{Master, Lane as ByLane}
use Rattle.history_model.specs.declared.event.Step.{Step}
use Rattle.history_model.specs.declared.event.Step.TheVariants.{Land, Part, Read, Accept, Latch, Take, Stall, MasterAbort, TargetAbort}
use Rattle.history_model.specs.declared.event.Event.{Event}
use Rattle.history_model.specs.declared.event.Event.TheVariants.{Act, Arrive}
use Rattle.history_model.specs.declared.event.Stamped.{Stamped}
use Rattle.history_model.specs.Program.{master_outcome, meets}
use Rattle.history_model.specs.World.{lane_outcome}

-- how the step ends what its initiator presented, if it does
abbrev pub outcome_by : Board → By → OpId → Step → Option Outcome
outcome_by board Master o step = master_outcome step
outcome_by board (ByLane lane) o step = lane_outcome board lane o step

-- a step that ends nothing takes a try on its way: a latch does, a stall does not
abbrev pub is_latch : Step → Bool
is_latch Land = false
is_latch (Part phases) = false
is_latch (Read value) = false
is_latch Accept = false
is_latch Latch = true
is_latch (Take outcome) = false
is_latch Stall = false
is_latch MasterAbort = false
is_latch TargetAbort = false

-- what ended so does not meet the poll, or it is on its way
abbrev pub is_unmet : Want → Step → Option Outcome → Bool
is_unmet want step None = is_latch step
is_unmet want step (Some outcome) = not (meets want outcome)

-- the operation is a poll, which the step does not meet
abbrev pub is_unmet_of : Option Op → Step → Option Outcome → Bool
is_unmet_of None step outcome = false
is_unmet_of (Some (ReadOp command address)) step outcome = false
is_unmet_of (Some (Write command address phases)) step outcome = false
is_unmet_of (Some (CfgRead bus device register)) step outcome = false
is_unmet_of (Some (CfgWrite bus device register phase)) step outcome = false
is_unmet_of (Some (Poll space address want tries)) step outcome = is_unmet want step outcome

-- an act of a try that is not met; what arrives may be what brings one there or back
abbrev pub is_unmet_try : Board → Event → Bool
is_unmet_try board (Act on by o step place) = is_unmet_of (op_of board o) step (outcome_by board by o step)
is_unmet_try board (Arrive lane mark) = true

-- an initiator did something
abbrev pub is_act : Event → Bool
is_act (Act on by o step place) = true
is_act (Arrive lane mark) = false

-- the events are tries that are not met, alone: some try, and what arrives beside it
abbrev pub are_unmet_tries : Board → List Stamped → Bool
are_unmet_tries board events = list_all (λ s. is_unmet_try board s.event) events && list_any (λ s. is_act s.event) events
