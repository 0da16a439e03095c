-- The posted writes of a lane in their order: PCI Local Bus Specification 2.2, appendix E (a posted write
-- must not pass a posted write).
use Rattle.std.specs.Prelude.{Bool, false, List, [], ◌∷◌, ◌++◌, Option, Some, None, is_some, ◌&&◌, if◌then◌else◌}
use Rattle.pci_command.specs.declared.command.Command.TheVariants.{MemWrite}
use Rattle.pci_command.specs.declared.op_id.OpId.{OpId}
use Rattle.pci_command.specs.Same.{same_command}
use Rattle.board_model.specs.declared.bridge.Lane.{Lane as BridgeLane}
use Rattle.board_model.specs.declared.bridge.Place.{Place}
use Rattle.board_model.specs.declared.bridge.Place.TheVariants.{Target, Header, Lane, Nobody}
use Rattle.board_model.specs.declared.board.Board.{Board}
use Rattle.board_model.specs.declared.op.Op.{Op}
use Rattle.board_model.specs.Requests.{op_of, command_of}
use Rattle.history_model.specs.declared.event.By.{By}
use Rattle.history_model.specs.declared.event.By.TheVariants.{Master, Lane as ByLane}
use Rattle.history_model.specs.declared.event.Step.{Step}
use Rattle.history_model.specs.declared.event.Step.TheVariants.{Land, Part, Read, Accept, Latch, Take, Stall, MasterAbort, TargetAbort}
use Rattle.history_model.specs.declared.event.Event.{Event}
use Rattle.history_model.specs.declared.event.Event.TheVariants.{Act, Arrive}
use Rattle.history_model.specs.declared.item.Carried.{Carried}
use Rattle.history_model.specs.declared.item.Carried.TheVariants.{Post, Ask, Done, Room, Gone}
use Rattle.history_model.specs.World.{same_lane, lane_outcome}

-- the operation of a posted write; nothing of any other item
abbrev pub post_in : Carried → List OpId
post_in (Post op) = op ∷ []
post_in (Ask op slot) = []
post_in (Done op slot outcome) = []
post_in Room = []
post_in (Gone slot) = []

-- the posted writes among the items, in their order
abbrev pub posts : List Carried → List OpId
posts [] = []
posts (item ∷ items) = post_in item ++ posts items

-- whether an operation is a write in memory, which is posted
abbrev pub is_posted_in : Option Op → Bool
is_posted_in None = false
is_posted_in (Some op) = same_command (command_of op) MemWrite

-- the same of an operation by its place on the board
abbrev pub is_posted_op : Board → OpId → Bool
is_posted_op board o = is_posted_in (op_of board o)

-- a posted write enters the lane that accepts it
abbrev pub accepted_at : BridgeLane → OpId → Place → List OpId
accepted_at lane o (Target target) = []
accepted_at lane o (Header bus) = []
accepted_at lane o (Lane at) = if same_lane at lane then o ∷ [] else []
accepted_at lane o Nobody = []

-- the operation, if the step accepts it as a posted write at the lane
abbrev pub enters_by : BridgeLane → OpId → Step → Place → List OpId
enters_by lane o Land place = []
enters_by lane o (Part phases) place = []
enters_by lane o (Read value) place = []
enters_by lane o Accept place = accepted_at lane o place
enters_by lane o Latch place = []
enters_by lane o (Take outcome) place = []
enters_by lane o Stall place = []
enters_by lane o MasterAbort place = []
enters_by lane o TargetAbort place = []

-- the posted write that enters the lane by the event, if one does
abbrev pub entering : BridgeLane → Event → List OpId
entering lane (Act on by o step place) = enters_by lane o step place
entering lane (Arrive at mark) = []

-- the posted writes that entered the lane, in the order in which they were accepted there
abbrev pub entered : BridgeLane → List Event → List OpId
entered lane [] = []
entered lane (e ∷ h) = entered lane h ++ entering lane e

-- a posted write leaves the lane that presented it, where the step ends it: it landed, or the next
-- bridge accepted it, or it was aborted
abbrev pub leaves_by : Board → BridgeLane → By → OpId → Step → List OpId
leaves_by board lane Master o step = []
leaves_by board lane (ByLane at) o step =
    if same_lane at lane && is_posted_op board o && is_some (lane_outcome board at o step) then o ∷ [] else []

-- the posted write that leaves the lane by the event, if one does
abbrev pub leaving : Board → BridgeLane → Event → List OpId
leaving board lane (Act on by o step place) = leaves_by board lane by o step
leaving board lane (Arrive at mark) = []

-- the posted writes that left the lane, in the order in which they left
abbrev pub left : Board → BridgeLane → List Event → List OpId
left board lane [] = []
left board lane (e ∷ h) = left board lane h ++ leaving board lane e
