-- What may happen next, by what is kept.
use Rattle.std.specs.Prelude.{ℕ, length, Option, Some, None, if◌then◌else◌}
use Rattle.std.specs.Option.{option_or}
use Rattle.pci_command.specs.declared.op_id.OpId.{OpId}
use Rattle.board_model.specs.declared.board.Board.{Board}
use Rattle.board_model.specs.declared.bridge.Lane.{Lane as BridgeLane}
use Rattle.history_model.specs.declared.event.By.{By}
use Rattle.history_model.specs.declared.event.By.TheVariants.{Master, Lane as ByLane}
use Rattle.history_model.specs.declared.event.Event.{Event}
use Rattle.history_model.specs.declared.item.Carried.{Carried}
use Rattle.history_model.specs.declared.item.Carried.TheVariants.{Post, Ask, Done, Room, Gone}
use Rattle.history_model.specs.Next.{first_in, act_given, arrival_of}
use Rattle.judge_state.specs.State.{KeptState, turn_in, lane_in, wants_now, mark_in}
use Rattle.judge_state.specs.Answer.{answer_now}
use Rattle.judge_next.specs.Lines.{lanes_ending, masters_below}

-- the next arrival on a lane
abbrev pub arrival_now : Board → KeptState → BridgeLane → Option Event
arrival_now board k lane = arrival_of lane (mark_in board k.lanes lane)

-- the first of the arrivals on a bus
abbrev pub arrival_on : Board → KeptState → ℕ → Option Event
arrival_on board k bus = first_in (arrival_now board k) (lanes_ending 256 board bus)

-- the act of what an initiator presents
abbrev pub act_now : Board → KeptState → ℕ → By → OpId → Option Event
act_now board k on by o = if wants_now board k on by o then act_given on by o (answer_now board k on by o) else None

-- of what stands on a lane
abbrev pub item_now : Board → KeptState → ℕ → BridgeLane → Carried → Option Event
item_now board k on lane (Post o) = act_now board k on (ByLane lane) o
item_now board k on lane (Ask o slot) = act_now board k on (ByLane lane) o
item_now board k on lane (Done o slot outcome) = None
item_now board k on lane Room = None
item_now board k on lane (Gone slot) = None

-- of a lane
abbrev pub lane_now : Board → KeptState → ℕ → BridgeLane → Option Event
lane_now board k on lane = first_in (item_now board k on lane) (lane_in board k.lanes lane).standing

-- of a master, by its turn
abbrev pub turn_now : Board → KeptState → ℕ → Option OpId → Option Event
turn_now board k on None = None
turn_now board k on (Some o) = act_now board k on Master o

-- the act of a master, if it presents its turn and gets no Retry
abbrev pub master_now : Board → KeptState → ℕ → ℕ → Option Event
master_now board k on master = turn_now board k on (turn_in k.turns master)

-- the first of the acts on a bus: lanes act before masters
unfoldable pub act_on_now : Board → KeptState → ℕ → Option Event
act_on_now board k bus =
    option_or (first_in (lane_now board k bus) (lanes_ending 256 board bus)) (first_in (master_now board k bus) (masters_below (length board.masters) board bus))
