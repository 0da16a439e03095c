-- How many events a run can still have, by the place of each item: each allowed event lowers it.
use Rattle.std.specs.Prelude.{ℕ, Bool, true, false, ◌+◌, ◌*◌, ◌-◌, List, [], ◌∷◌, drop, length, Option, Some, None, nat_lt, if◌then◌else◌}
use Rattle.std.specs.List.{find, list_any}
use Rattle.list_facts.specs.Lists.{total}
use Rattle.pci_command.specs.declared.op_id.OpId.{OpId}
use Rattle.pci_command.specs.Same.{same_op}
use Rattle.board_model.specs.declared.agents.Master.{Master as MasterAgent}
use Rattle.board_model.specs.declared.agents.Target.{Target as TargetAgent}
use Rattle.board_model.specs.declared.bridge.Bridge.{Bridge}
use Rattle.board_model.specs.declared.bridge.Lane.{Lane as BridgeLane}
use Rattle.board_model.specs.declared.op.Op.{Op}
use Rattle.board_model.specs.declared.board.Board.{Board}
use Rattle.board_model.specs.declared.board.Planned.{Planned}
use Rattle.board_model.specs.Requests.{op_of, phases_of, request_on, tries_of, is_posted}
use Rattle.board_model.specs.Ways.{way, end_of, pieces_of, cost_of, cost_of_try, longest_way, lane_back}
use Rattle.history_model.specs.declared.event.Event.{Event}
use Rattle.history_model.specs.declared.item.Carried.{Carried}
use Rattle.history_model.specs.declared.item.Carried.TheVariants.{Post, Ask, Done, Room, Gone}
use Rattle.history_model.specs.declared.item.Slot.{Slot}
use Rattle.history_model.specs.Lanes.{LaneState, is_done_for}
use Rattle.history_model.specs.World.{World, world_of}
use Rattle.history_model.specs.Program.{turn_of}
use Rattle.history_model.specs.Words.{through}
use Rattle.history_model.specs.Answers.{stalls_used}
use Rattle.history_model.specs.Local.{is_ask_of, is_gone_of}

-- Posted writes and credits on a lane.

-- of a posted write on a lane: three events for each bridge still before it, and one for each piece in
-- which the target takes what is left
abbrev pub post_left : Board → List Event → BridgeLane → OpId → Option Op → ℕ
post_left board h lane o None = 0
post_left board h lane o (Some op) =
    let on = end_of board lane in
    3 * length (way board op on) + pieces_of board op on (length (phases_of op) - through h o)

-- in flight: its arrival and its credit's beside what it has when it stands
abbrev pub flying_left : Board → List Event → BridgeLane → Carried → ℕ
flying_left board h lane (Post op) = post_left board h lane op (op_of board op) + 2
flying_left board h lane (Ask op slot) = 0
flying_left board h lane (Done op slot outcome) = 0
flying_left board h lane Room = 1
flying_left board h lane (Gone slot) = 0

-- standing at the far face: it has to leave, and its credit to arrive
abbrev pub standing_left : Board → List Event → BridgeLane → Carried → ℕ
standing_left board h lane (Post op) = post_left board h lane op (op_of board op) + 1
standing_left board h lane (Ask op slot) = 0
standing_left board h lane (Done op slot outcome) = 0
standing_left board h lane Room = 0
standing_left board h lane (Gone slot) = 0

-- of the posted writes and credits of one lane
abbrev pub lane_left : Board → List Event → BridgeLane → ℕ
lane_left board h lane =
    let state = world_of board h lane in
    total (flying_left board h lane) state.flight + total (standing_left board h lane) state.standing

-- of both lanes of a bridge
abbrev pub bridge_left : Board → List Event → Bridge → ℕ
bridge_left board h bridge =
    lane_left board h (record { bus = bridge.bus; up = false }) + lane_left board h (record { bus = bridge.bus; up = true })

-- The operation that is a master's turn.

-- the slot is held for the operation
abbrev pub is_slot_of : OpId → Slot → Bool
is_slot_of o slot = same_op slot.op o

-- how many lanes of its way, from the first on, hold a slot for an operation, and the last of these
pub record Reach : Type 0 where
  pub lanes : ℕ
  pub last : Option BridgeLane

-- the lane, where there is one, or else the other
abbrev pub lane_or : Option BridgeLane → BridgeLane → BridgeLane
lane_or None lane = lane
lane_or (Some other) lane = other

-- how far the slots of an operation reach on these lanes
abbrev pub reach_of : World → OpId → List BridgeLane → Reach
reach_of world o [] = record { lanes = 0; last = None }
reach_of world o (lane ∷ lanes) =
    if list_any (is_slot_of o) (world lane).held
    then (let rest = reach_of world o lanes in record { lanes = rest.lanes + 1; last = Some (lane_or rest.last lane) })
    else record { lanes = 0; last = None }

-- by the place of the item of the furthest slot, with `long` the length of the way and `far` the number of the lane
abbrev pub slot_left : ℕ → ℕ → LaneState → LaneState → Option Slot → ℕ
slot_left long far here back None = 4 * long + 1
slot_left long far here back (Some slot) =
    if list_any (is_ask_of slot.number) here.flight then 4 * (long - far) + 2 * far + 2
    else if list_any (is_ask_of slot.number) here.standing then 4 * (long - far) + 2 * far + 1
    else if list_any (is_done_for slot.number) back.flight then 2 * far
    else if list_any (is_done_for slot.number) back.standing then 2 * far - 1
    else if list_any (is_gone_of slot.number) back.flight then 4 * (long - far) + 2 * far + 4
    else 4 * long + 1

-- of a delayed request, by its furthest slot
abbrev pub reach_left : World → OpId → ℕ → ℕ → Option BridgeLane → ℕ
reach_left world o long far None = 4 * long + 1
reach_left world o long far (Some lane) =
    slot_left long far (world lane) (world (lane_back lane)) (find (is_slot_of o) (world lane).held)

-- of a delayed request on the lanes of its way
abbrev pub delayed_left : World → OpId → List BridgeLane → ℕ
delayed_left world o lanes = let reach = reach_of world o lanes in reach_left world o (length lanes) reach.lanes reach.last

-- a posted write in its pieces, or a delayed request where it got to and the tries behind it
abbrev pub op_left : Board → List Event → ℕ → OpId → Op → ℕ
op_left board h on o op =
    if is_posted (request_on op on)
    then 3 * length (way board op on) + pieces_of board op on (length (phases_of op) - through h o)
    else delayed_left (world_of board h) o (way board op on) + (tries_of op - (o.attempt + 1)) * cost_of_try board on op

-- of an operation, where it is there
abbrev pub turn_left : Board → List Event → ℕ → OpId → Option Op → ℕ
turn_left board h on o None = 0
turn_left board h on o (Some op) = op_left board h on o op

-- the turn, and the operations behind it
abbrev pub program_left : Board → List Event → MasterAgent → Option OpId → ℕ
program_left board h master None = 0
program_left board h master (Some o) =
    turn_left board h master.bus o (op_of board o) + total (cost_of board master.bus) (drop (o.index + 1) master.ops)

-- of all masters from the index on
abbrev pub programs_left : Board → List Event → ℕ → List MasterAgent → ℕ
programs_left board h index [] = 0
programs_left board h index (master ∷ masters) =
    program_left board h master (turn_of board h index) + programs_left board h (index + 1) masters

-- What the board still has in store.

-- the stall tokens that the targets from the index on still have
abbrev pub stalls_left : List Event → ℕ → List TargetAgent → ℕ
stalls_left h index [] = 0
stalls_left h index (target ∷ targets) = (target.stalls - stalls_used h index) + stalls_left h (index + 1) targets

-- a line that names a completion or a request that did not come yet
abbrev pub discard_left : Board → World → Planned → ℕ
discard_left board world planned =
    if nat_lt (world (record { bus = planned.bus; up = planned.up })).dones planned.count then 4 * longest_way board else 0

-- and a request that is still to be dropped: it is latched once more, and the word that it was dropped
-- arrives
abbrev pub drop_left : World → Planned → ℕ
drop_left world planned = if nat_lt (world (record { bus = planned.bus; up = planned.up })).asks planned.count then 3 else 0

-- at most so many events can follow the history
abbrev pub left_of : Board → List Event → ℕ
left_of board h =
    programs_left board h 0 board.masters
    + total (bridge_left board h) board.bridges
    + stalls_left h 0 board.targets
    + total (discard_left board (world_of board h)) board.discards
    + total (drop_left (world_of board h)) board.drops
