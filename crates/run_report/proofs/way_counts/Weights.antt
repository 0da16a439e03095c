-- What is still to be counted of each item on the lanes, and what was counted already for each held slot.
use Rattle.std.proofs.Common.{ℕ, ◌+◌, Option, Some, None}
use Rattle.list_facts.specs.Lists.{total}
use Rattle.pci_command.specs.declared.op_id.OpId.{OpId}
use Rattle.board_model.specs.declared.bridge.Lane.{Lane as BridgeLane}
use Rattle.board_model.specs.declared.op.Op.{Op}
use Rattle.board_model.specs.declared.board.Board.{Board}
use Rattle.board_model.specs.Requests.{op_of}
use Rattle.board_model.specs.Ways.{start_of, end_of}
use Rattle.history_model.specs.declared.item.Carried.{Carried}
use Rattle.history_model.specs.declared.item.Carried.TheVariants.{Post, Ask, Done, Room, Gone}
use Rattle.history_model.specs.declared.item.Slot.{Slot}
use Rattle.history_model.specs.Lanes.{LaneState}
use Rattle.history_model.specs.World.{World}
use Rattle.law_lanes.specs.order.One.{over_lanes}
use Rattle.run_report.specs.declared.tallies.CountedKind.TheVariants.{Latch, Arrive}
use Rattle.run_report.specs.way_counts.WayCounts.{Weight, way_weight}

-- what an operation counts from a bus on, where it is there
abbrev pub op_weight : Board → Weight → ℕ → Option Op → ℕ
op_weight board weight on None = 0
op_weight board weight on (Some op) = way_weight board weight on op

abbrev pub from_bus : Board → Weight → ℕ → OpId → ℕ
from_bus board weight on o = op_weight board weight on (op_of board o)

-- behind the end of a lane: what the operation counts from there on, and the arrival of its answer
abbrev pub behind : Board → Weight → BridgeLane → OpId → ℕ
behind board weight lane o = from_bus board weight (end_of board lane) o + weight (start_of board lane) Arrive

-- an item in flight arrives first
abbrev pub flying : Board → Weight → BridgeLane → Carried → ℕ
flying board weight lane (Post op) = weight (end_of board lane) Arrive + behind board weight lane op
flying board weight lane (Ask op slot) = weight (end_of board lane) Arrive + behind board weight lane op
flying board weight lane (Done op slot outcome) = weight (end_of board lane) Arrive
flying board weight lane Room = weight (end_of board lane) Arrive
flying board weight lane (Gone slot) = weight (end_of board lane) Arrive

abbrev pub standing : Board → Weight → BridgeLane → Carried → ℕ
standing board weight lane (Post op) = behind board weight lane op
standing board weight lane (Ask op slot) = behind board weight lane op
standing board weight lane (Done op slot outcome) = 0
standing board weight lane Room = 0
standing board weight lane (Gone slot) = 0

-- the latch of a slot, and all that comes before its completion is taken
abbrev pub holding : Board → Weight → BridgeLane → Slot → ℕ
holding board weight lane slot = weight (start_of board lane) Latch + (weight (end_of board lane) Arrive + behind board weight lane slot.op)

-- of one lane
abbrev pub lane_items : Board → Weight → BridgeLane → LaneState → ℕ
lane_items board weight lane state = total (flying board weight lane) state.flight + total (standing board weight lane) state.standing

abbrev pub lane_slots : Board → Weight → BridgeLane → LaneState → ℕ
lane_slots board weight lane state = total (holding board weight lane) state.held

-- of all lanes
abbrev pub items : Board → Weight → World → ℕ
items board weight world = over_lanes (λ lane. lane_items board weight lane (world lane)) board

abbrev pub slots : Board → Weight → World → ℕ
slots board weight world = over_lanes (λ lane. lane_slots board weight lane (world lane)) board
