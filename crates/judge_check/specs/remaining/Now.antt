-- How many events a run can still have, and whether it is complete, by what is kept of it: what `left_of` and `Complete`
-- say of a history, with the turns, lanes, stall tokens and counts of data phases that are kept.
use Rattle.std.specs.Prelude.{◌≡◌, ℕ, true, false, ◌+◌, ◌*◌, ◌-◌, ◌<◌, List, [], ◌∷◌, drop, length, Option, Some, None, if◌then◌else◌}
use Rattle.std.specs.List.{AllByRecursion}
use Rattle.list_facts.specs.Lists.{total}
use Rattle.pci_command.specs.declared.op_id.OpId.{OpId}
use Rattle.board_model.specs.declared.agents.Master.{Master as MasterAgent}
use Rattle.board_model.specs.declared.agents.Target.{Target as TargetAgent}
use Rattle.board_model.specs.declared.bridge.Bridge.{Bridge}
use Rattle.board_model.specs.declared.bridge.Lane.{Lane as BridgeLane}
use Rattle.board_model.specs.declared.op.Op.{Op}
use Rattle.board_model.specs.declared.board.Board.{Board}
use Rattle.board_model.specs.Requests.{op_of, phases_of, request_on, tries_of, is_posted}
use Rattle.board_model.specs.Ways.{way, end_of, pieces_of, cost_of, cost_of_try}
use Rattle.history_model.specs.declared.item.Carried.{Carried}
use Rattle.history_model.specs.declared.item.Carried.TheVariants.{Post, Ask, Done, Room, Gone}
use Rattle.history_model.specs.World.{World}
use Rattle.history_model.specs.Runs.{IsIdle}
use Rattle.history_model.specs.Left.{delayed_left, discard_left, drop_left}
use Rattle.judge_state.specs.State.{KeptState, turn_in, lane_in, tokens_in, gone_in}

-- the lanes that are kept
abbrev pub world_now : Board → KeptState → World
world_now board k lane = lane_in board k.lanes lane

-- of a posted write from the bus on: its lanes, and the pieces that are left of it
abbrev pub posted_now : Board → KeptState → ℕ → OpId → Op → ℕ
posted_now board k on o op = 3 * length (way board op on) + pieces_of board op on (length (phases_of op) - gone_in k.gone o)

-- of a posted write on a lane
abbrev pub post_now : Board → KeptState → BridgeLane → OpId → Option Op → ℕ
post_now board k lane o None = 0
post_now board k lane o (Some op) = posted_now board k (end_of board lane) o op

-- of an item in flight
abbrev pub flying_now : Board → KeptState → BridgeLane → Carried → ℕ
flying_now board k lane (Post op) = post_now board k lane op (op_of board op) + 2
flying_now board k lane (Ask op slot) = 0
flying_now board k lane (Done op slot outcome) = 0
flying_now board k lane Room = 1
flying_now board k lane (Gone slot) = 0

-- of one that stands
abbrev pub standing_now : Board → KeptState → BridgeLane → Carried → ℕ
standing_now board k lane (Post op) = post_now board k lane op (op_of board op) + 1
standing_now board k lane (Ask op slot) = 0
standing_now board k lane (Done op slot outcome) = 0
standing_now board k lane Room = 0
standing_now board k lane (Gone slot) = 0

-- of the posted writes and credits of one lane
abbrev pub lane_now : Board → KeptState → BridgeLane → ℕ
lane_now board k lane =
    total (flying_now board k lane) (lane_in board k.lanes lane).flight + total (standing_now board k lane) (lane_in board k.lanes lane).standing

-- of both lanes of a bridge
abbrev pub bridge_now : Board → KeptState → Bridge → ℕ
bridge_now board k bridge = lane_now board k (record { bus = bridge.bus; up = false }) + lane_now board k (record { bus = bridge.bus; up = true })

-- of the operation that is a master's turn: a posted write, or a delayed request and the tries behind it
abbrev pub op_now : Board → KeptState → ℕ → OpId → Op → ℕ
op_now board k on o op =
    if is_posted (request_on op on) then posted_now board k on o op
    else delayed_left (world_now board k) o (way board op on) + (tries_of op - (o.attempt + 1)) * cost_of_try board on op

-- of the operation, where it is there
abbrev pub turn_now : Board → KeptState → ℕ → OpId → Option Op → ℕ
turn_now board k on o None = 0
turn_now board k on o (Some op) = op_now board k on o op

-- of a program: the turn, and the operations behind it
abbrev pub program_now : Board → KeptState → MasterAgent → Option OpId → ℕ
program_now board k master None = 0
program_now board k master (Some o) =
    turn_now board k master.bus o (op_of board o) + total (cost_of board master.bus) (drop (o.index + 1) master.ops)

-- of the programs of these masters, the first of this number
abbrev pub programs_now : Board → KeptState → ℕ → List MasterAgent → ℕ
programs_now board k index [] = 0
programs_now board k index (master ∷ masters) =
    program_now board k master (turn_in k.turns index) + programs_now board k (index + 1) masters

-- the stall tokens of these targets, the first of this number
abbrev pub stalls_now : KeptState → ℕ → List TargetAgent → ℕ
stalls_now k index [] = 0
stalls_now k index (target ∷ targets) = tokens_in k.tokens index + stalls_now k (index + 1) targets

-- at most so many events can follow
abbrev pub left_now : Board → KeptState → ℕ
left_now board k =
    programs_now board k 0 board.masters
    + total (bridge_now board k) board.bridges
    + stalls_now k 0 board.targets
    + total (discard_left board (world_now board k)) board.discards
    + total (drop_left (world_now board k)) board.drops

-- nothing is on either lane of a bridge
abbrev pub IsIdleNow : Board → KeptState → Bridge → Type 0
IsIdleNow board k bridge = IsIdle (lane_in board k.lanes (record { bus = bridge.bus; up = false })) × IsIdle (lane_in board k.lanes (record { bus = bridge.bus; up = true }))

-- no master has a turn, and nothing is on any lane
pub record CompleteNow (board : Board) (k : KeptState) : Type 0 where
  pub ended : (master : ℕ) → master < length board.masters → turn_in k.turns master ≡ None
  pub idle : AllByRecursion (IsIdleNow board k) board.bridges
