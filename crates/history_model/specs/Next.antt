-- The next event of a run in a fixed order: the first arrival that is allowed, and where there is none the first act.
use Rattle.std.specs.Prelude.{ℕ, Bool, true, false, zero, suc, List, [], ◌∷◌, length, Option, Some, None, ◌&&◌, ◌==◌, if◌then◌else◌}
use Rattle.std.specs.Option.{option_or}
use Rattle.pci_command.specs.declared.op_id.OpId.{OpId}
use Rattle.board_model.specs.declared.bridge.Lane.{Lane as BridgeLane}
use Rattle.board_model.specs.declared.board.Board.{Board}
use Rattle.board_model.specs.Valid.{has_bridge_to}
use Rattle.board_model.specs.Ways.{end_of}
use Rattle.history_model.specs.declared.event.By.{By}
use Rattle.history_model.specs.declared.event.By.TheVariants.{Master, Lane as ByLane}
use Rattle.history_model.specs.declared.event.Mark.{Mark}
use Rattle.history_model.specs.declared.event.Event.{Event}
use Rattle.history_model.specs.declared.event.Event.TheVariants.{Act, Arrive}
use Rattle.history_model.specs.declared.item.Carried.{Carried}
use Rattle.history_model.specs.declared.item.Carried.TheVariants.{Post, Ask, Done, Room, Gone}
use Rattle.history_model.specs.declared.item.Answer.{Answer}
use Rattle.history_model.specs.declared.item.Answer.TheVariants.{Gives, Retry}
use Rattle.history_model.specs.World.{world_of}
use Rattle.history_model.specs.Program.{turn_of}
use Rattle.history_model.specs.Answers.{wants, answer}
use Rattle.history_model.specs.Runs.{next_mark}

-- What the first gives that gives anything: of a list, of the numbers below a bound, of all buses.

-- of a list: what the first element gives that gives anything
abbrev pub first_in : {X Y : Type 0} → (X → Option Y) → List X → Option Y
first_in gives [] = None
first_in gives (x ∷ xs) = option_or (gives x) (first_in gives xs)

-- of the numbers below a bound, from 0 on
abbrev pub first_below : {Y : Type 0} → ℕ → (ℕ → Option Y) → Option Y
first_below zero gives = None
first_below (suc n) gives = option_or (first_below n gives) (gives n)

-- of the numbers of all buses, 0 to 255
unfoldable pub first_bus : {Y : Type 0} → (ℕ → Option Y) → Option Y
first_bus gives = first_below 256 gives

-- The lanes that arrive on a bus: that of its own bridge, down to it, and those of the bridges below it, up to it.

-- the lane of the bridge to this bus on which items go down to it
abbrev pub down_to : ℕ → BridgeLane
down_to bus = record { bus = bus; up = false }

-- the lane of the bridge to this bus on which items go up from it
abbrev pub up_from : ℕ → BridgeLane
up_from bus = record { bus = bus; up = true }

-- a lane of a bridge of the board that ends on the bus
abbrev pub ends_on : Board → ℕ → BridgeLane → Bool
ends_on board bus lane = has_bridge_to board lane.bus && end_of board lane == bus

-- what is given for the lane, if the lane ends on the bus
abbrev pub given_on : {Y : Type 0} → Board → ℕ → (BridgeLane → Option Y) → BridgeLane → Option Y
given_on board bus gives lane = if ends_on board bus lane then gives lane else None

-- the lane of the own bridge first, then those of the bridges below by increasing number
abbrev pub first_lane : {Y : Type 0} → Board → ℕ → (BridgeLane → Option Y) → Option Y
first_lane board bus gives =
    option_or (given_on board bus gives (down_to bus)) (first_bus (λ child. given_on board bus gives (up_from child)))

-- Arrivals: something is in flight on the lane, and it comes with the mark that the board gives it.

-- the arrival on the lane with this mark; none where there is no mark, since nothing is in flight
abbrev pub arrival_of : BridgeLane → Option Mark → Option Event
arrival_of lane None = None
arrival_of lane (Some mark) = Some (Arrive lane mark)

-- the arrival of what is in flight on the lane, after this history
abbrev pub arrival_at : Board → List Event → BridgeLane → Option Event
arrival_at board h lane = arrival_of lane (next_mark board h lane)

-- the first arrival of the board, by the buses on which the lanes end
abbrev pub first_arrival : Board → List Event → Option Event
first_arrival board h = first_bus (λ bus. first_lane board bus (arrival_at board h))

-- Acts: the initiator presents the operation, and its answer is an event and no Retry.

-- the act that an answer is; a Retry is no event
abbrev pub act_given : ℕ → By → OpId → Answer → Option Event
act_given on by o (Gives step place) = Some (Act on by o step place)
act_given on by o (Retry cause) = None

-- the act of the operation, if the initiator presents it and it gets no Retry
abbrev pub act_of : Board → List Event → ℕ → By → OpId → Option Event
act_of board h on by o = if wants board h on by o then act_given on by o (answer board h on by o) else None

-- a lane presents posted writes and delayed requests
abbrev pub act_of_item : Board → List Event → ℕ → BridgeLane → Carried → Option Event
act_of_item board h on lane (Post o) = act_of board h on (ByLane lane) o
act_of_item board h on lane (Ask o slot) = act_of board h on (ByLane lane) o
act_of_item board h on lane (Done o slot outcome) = None
act_of_item board h on lane Room = None
act_of_item board h on lane (Gone slot) = None

-- in the order in which they stand, the oldest first
abbrev pub act_of_lane : Board → List Event → ℕ → BridgeLane → Option Event
act_of_lane board h on lane = first_in (act_of_item board h on lane) (world_of board h lane).standing

-- a master presents its turn
abbrev pub act_of_turn : Board → List Event → ℕ → Option OpId → Option Event
act_of_turn board h on None = None
act_of_turn board h on (Some o) = act_of board h on Master o

-- the masters in the order of the board
abbrev pub act_of_masters : Board → List Event → ℕ → Option Event
act_of_masters board h on = first_below (length board.masters) (λ master. act_of_turn board h on (turn_of board h master))

-- on a bus its lanes act before its masters
abbrev pub act_on : Board → List Event → ℕ → Option Event
act_on board h bus = option_or (first_lane board bus (act_of_lane board h bus)) (act_of_masters board h bus)

-- the first act of the board, by its buses
abbrev pub first_act : Board → List Event → Option Event
first_act board h = first_bus (act_on board h)

-- The next event.

-- the event that comes next in the fixed order; none where nothing can happen
abbrev pub next_of : Board → List Event → Option Event
next_of board h = option_or (first_arrival board h) (first_act board h)
