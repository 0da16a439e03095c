-- How often an operation ended at its master, and where its posted write is: PCI Local Bus Specification 2.2,
-- section 3.2.5 (from memory; posted writes).
use Rattle.std.specs.Prelude.{◌≡◌, ℕ, Bool, true, false, ◌+◌, ◌≤◌, List, [], ◌∷◌, is_some, not, ◌&&◌, if◌then◌else◌}
use Rattle.list_facts.specs.Lists.{total}
use Rattle.pci_command.specs.declared.op_id.OpId.{OpId}
use Rattle.pci_command.specs.Same.{same_op}
use Rattle.board_model.specs.declared.bridge.Bridge.{Bridge}
use Rattle.board_model.specs.declared.bridge.Lane.{Lane as BridgeLane}
use Rattle.board_model.specs.declared.board.Board.{Board}
use Rattle.history_model.specs.declared.event.Step.{Step}
use Rattle.history_model.specs.declared.event.Step.TheVariants.{Land, Part, Read, Accept, Latch, Take, Stall, MasterAbort, TargetAbort}
use Rattle.history_model.specs.declared.event.Event.{Event}
use Rattle.history_model.specs.declared.event.Event.TheVariants.{Act, Arrive}
use Rattle.history_model.specs.Lanes.{LaneState}
use Rattle.history_model.specs.World.{world_of}
use Rattle.history_model.specs.Knowledge.{ends_as}
use Rattle.law_lanes.specs.order.Order.{posts}
use Rattle.law_lanes.specs.order.Masters.{is_master, accepts_from_master}

-- how many events of the history pass the test
abbrev pub times : (Event → Bool) → List Event → ℕ
times test [] = 0
times test (e ∷ h) = (if test e then 1 else 0) + times test h

-- the event ends the operation at its master
abbrev pub ends_at_master : OpId → Event → Bool
ends_at_master o e = is_some (ends_as o e)

-- the step with which a write reaches its target to its end
abbrev pub is_land : Step → Bool
is_land Land = true
is_land (Part phases) = false
is_land (Read value) = false
is_land Accept = false
is_land Latch = false
is_land (Take outcome) = false
is_land Stall = false
is_land MasterAbort = false
is_land TargetAbort = false

-- nobody claims the operation, or its target aborts it
abbrev pub is_abort : Step → Bool
is_abort Land = false
is_abort (Part phases) = false
is_abort (Read value) = false
is_abort Accept = false
is_abort Latch = false
is_abort (Take outcome) = false
is_abort Stall = false
is_abort MasterAbort = true
is_abort TargetAbort = true

-- the operation lands as its master presents it, and as a bridge presents it
abbrev pub lands_from_master : OpId → Event → Bool
lands_from_master o (Act on by op step place) = is_master by && is_land step && same_op op o
lands_from_master o (Arrive lane mark) = false

-- the same as a bridge presents it
abbrev pub lands_from_lane : OpId → Event → Bool
lands_from_lane o (Act on by op step place) = not (is_master by) && is_land step && same_op op o
lands_from_lane o (Arrive lane mark) = false

-- it is lost: nobody claims it as a bridge presents it, or its target aborts it
abbrev pub lost_from_lane : OpId → Event → Bool
lost_from_lane o (Act on by op step place) = not (is_master by) && is_abort step && same_op op o
lost_from_lane o (Arrive lane mark) = false

-- 1 where the two are the same operation
abbrev pub one_of : OpId → OpId → ℕ
one_of o op = if same_op op o then 1 else 0

-- how many posted writes of the operation are in flight or standing on a lane
abbrev pub on_lane : OpId → LaneState → ℕ
on_lane o state = total (one_of o) (posts state.standing) + total (one_of o) (posts state.flight)

-- a sum over both lanes of every bridge
abbrev pub both_lanes : (BridgeLane → ℕ) → Bridge → ℕ
both_lanes count bridge = count (record { bus = bridge.bus; up = false }) + count (record { bus = bridge.bus; up = true })

-- that sum over all bridges of the board
abbrev pub over_lanes : (BridgeLane → ℕ) → Board → ℕ
over_lanes count board = total (both_lanes count) board.bridges

-- how many are on all lanes of the board
abbrev pub on_lanes : Board → List Event → OpId → ℕ
on_lanes board h o = over_lanes (λ lane. on_lane o (world_of board h lane)) board

-- a write in memory that a bridge accepted from its master is on one lane, or landed, or was lost, and only one
-- of these; and its master ended it only once, as it was accepted or as it landed
pub record OnePost (board : Board) (h : List Event) (o : OpId) : Type 0 where
  pub somewhere : on_lanes board h o + times (lands_from_lane o) h + times (lost_from_lane o) h ≡ times (accepts_from_master o) h
  pub once : times (accepts_from_master o) h + times (lands_from_master o) h ≤ 1
