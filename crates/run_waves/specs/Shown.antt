-- What a signal shows after so many events of a run.
use Rattle.std.specs.Prelude.{ℕ, Bool, true, false, ◌-◌, List, [], ◌∷◌, length, Option, Some, None, codes, count_by, ◌==◌, if◌then◌else◌, slice_get}
use Rattle.std.specs.List.{list_any, concat}
use Rattle.std.specs.Option.{option_map_or}
use Rattle.pci_command.specs.declared.op_id.OpId.{OpId}
use Rattle.pci_command.specs.declared.op_id.Outcome.{Outcome}
use Rattle.pci_command.specs.declared.op_id.Outcome.TheVariants as outcomes
use Rattle.pci_command.specs.Same.{same_op}
use Rattle.board_model.specs.declared.board.Board.{Board}
use Rattle.history_model.specs.declared.event.By.{By}
use Rattle.history_model.specs.declared.event.By.TheVariants.{Master, Lane as ByLane}
use Rattle.history_model.specs.declared.event.Mark.{Mark}
use Rattle.history_model.specs.declared.event.Mark.TheVariants.{Plain, Discard, Drop}
use Rattle.history_model.specs.declared.event.Step.{Step}
use Rattle.history_model.specs.declared.event.Step.TheVariants as steps
use Rattle.history_model.specs.declared.event.Event.{Event}
use Rattle.history_model.specs.declared.event.Event.TheVariants.{Act, Arrive}
use Rattle.history_model.specs.declared.item.Carried.{Carried}
use Rattle.history_model.specs.declared.item.Carried.TheVariants.{Post, Ask, Done, Room, Gone}
use Rattle.history_model.specs.Lanes.{LaneState, is_post}
use Rattle.history_model.specs.World.{world_of}
use Rattle.history_model.specs.Moves.{oldest}
use Rattle.history_model.specs.Program.{turn_of}
use Rattle.history_model.specs.Answers.{stalls_used}
use Rattle.history_model.specs.Local.{bus_of}
use Rattle.trace_text.specs.Words.{lane_word, by_word, op_word, place_words}
use Rattle.trace_text.specs.Events.{step_word}
use Rattle.run_waves.specs.declared.signal.BusPart.{BusPart}
use Rattle.run_waves.specs.declared.signal.BusPart.TheVariants as parts
use Rattle.run_waves.specs.declared.signal.LaneCount.{LaneCount}
use Rattle.run_waves.specs.declared.signal.LaneCount.TheVariants.{Owed, Held, Flight, Posts, Requests, Completions}
use Rattle.run_waves.specs.declared.signal.Signal.{Signal}
use Rattle.run_waves.specs.declared.signal.Signal.TheVariants.{Bus, Lane, Index, Try, Waits, Stall}

-- A moment of a run: the event that happens, where one does, and the events before it, newest first. There is one before
-- the first event, in which nothing happens, one for each event, and one behind the last.
pub record Moment : Type 0 where
  pub before : List Event
  pub event : Option Event

-- all that has happened then
abbrev pub events_by : List Event → Option Event → List Event
events_by before None = before
events_by before (Some e) = e ∷ before

-- all that has happened up to a moment
abbrev pub past : Moment → List Event
past m = events_by m.before m.event

-- before the first event
abbrev pub beginning : Moment
beginning = record { before = []; event = None }

-- the moment of the event that happens next
abbrev pub next : Moment → Event → Moment
next m e = record { before = past m; event = Some e }

-- behind the last event
abbrev pub ending : Moment → Moment
ending m = record { before = past m; event = None }

-- a signal shows a text, is up or down, shows a number, or nothing
pub data Shown : Type 0 where
  Text : List ℕ → Shown
  Level : Bool → Shown
  Number : ℕ → Shown
  Nothing : Shown

-- What happens on a bus.

-- what an item is called
abbrev pub item_word : Carried → List ℕ
item_word (Post op) = codes "post"
item_word (Ask op slot) = codes "request"
item_word (Done op slot outcome) = codes "completion"
item_word Room = codes "credit"
item_word (Gone slot) = codes "gone"

-- the operation of a posted write, a delayed request or a completion
abbrev pub item_op : Board → Carried → List ℕ
item_op board (Post op) = op_word board op
item_op board (Ask op slot) = op_word board op
item_op board (Done op slot outcome) = op_word board op
item_op board Room = []
item_op board (Gone slot) = []

-- the kind of an arrival, by its mark
abbrev pub arrival_word : Mark → List ℕ
arrival_word Plain = codes "arrive"
arrival_word Discard = codes "discard"
arrival_word Drop = codes "drop"

-- the value that was read
abbrev pub outcome_value : Outcome → Shown
outcome_value (outcomes.Value value) = Number value
outcome_value outcomes.Written = Nothing
outcome_value outcomes.Aborted = Nothing
outcome_value outcomes.Nobody = Nothing

-- the value of a read, or of a completion that brings one
abbrev pub step_value : Step → Shown
step_value steps.Land = Nothing
step_value (steps.Part phases) = Nothing
step_value (steps.Read value) = Number value
step_value steps.Accept = Nothing
step_value steps.Latch = Nothing
step_value (steps.Take outcome) = outcome_value outcome
step_value steps.Stall = Nothing
step_value steps.MasterAbort = Nothing
step_value steps.TargetAbort = Nothing

-- the kind of an event: the word of a transaction, with the words that a trace has; of an arrival that of its mark
abbrev pub kind_word : Event → List ℕ
kind_word (Act on by o step place) = step_word step
kind_word (Arrive lane mark) = arrival_word mark

-- who presents the transaction; the lane of an arrival
abbrev pub initiator_word : Event → List ℕ
initiator_word (Act on by o step place) = by_word by
initiator_word (Arrive lane mark) = lane_word lane

-- the operation; of an arrival that of what arrives
abbrev pub op_shown : Board → Event → Option Carried → List ℕ
op_shown board (Act on by o step place) item = op_word board o
op_shown board (Arrive lane mark) item = option_map_or (item_op board) item []

-- who claims the transaction; of an arrival what arrives
abbrev pub to_shown : Board → Event → Option Carried → List ℕ
to_shown board (Act on by o step place) item = concat (place_words board place)
to_shown board (Arrive lane mark) item = option_map_or item_word item []

-- the value that is read
abbrev pub value_shown : Event → Shown
value_shown (Act on by o step place) = step_value step
value_shown (Arrive lane mark) = Nothing

-- an event, with the item that arrives by it
abbrev pub event_part : Board → BusPart → Event → Option Carried → Shown
event_part board parts.Event e item = Text (kind_word e)
event_part board parts.By e item = Text (initiator_word e)
event_part board parts.Op e item = Text (op_shown board e item)
event_part board parts.To e item = Text (to_shown board e item)
event_part board parts.Value e item = value_shown e

-- the item that arrives by an event after these: the oldest in flight on its lane; nothing arrives by a transaction
abbrev pub item_by : Board → List Event → Event → Option Carried
item_by board before (Act on by o step place) = None
item_by board before (Arrive lane mark) = oldest (world_of board before lane).flight

-- where nothing happens: empty texts, and no value
abbrev pub idle_part : BusPart → Shown
idle_part parts.Event = Text []
idle_part parts.By = Text []
idle_part parts.Op = Text []
idle_part parts.To = Text []
idle_part parts.Value = Nothing

-- whether something happens on the bus
abbrev pub is_event_on : Board → ℕ → Option Event → Bool
is_event_on board bus None = false
is_event_on board bus (Some e) = bus_of board e == bus

-- what a part of a bus shows of what happens there
abbrev pub part_of : Board → BusPart → List Event → Option Event → Shown
part_of board part before None = idle_part part
part_of board part before (Some e) = event_part board part e (item_by board before e)

-- Lanes, masters and targets.

-- a delayed request; a completion
abbrev pub is_request : Carried → Bool
is_request (Post op) = false
is_request (Ask op slot) = true
is_request (Done op slot outcome) = false
is_request Room = false
is_request (Gone slot) = false

-- whether an item is a completion
abbrev pub is_completion : Carried → Bool
is_completion (Post op) = false
is_completion (Ask op slot) = false
is_completion (Done op slot outcome) = true
is_completion Room = false
is_completion (Gone slot) = false

-- posted writes owed and slots held at the face where the lane begins, what is in flight, and what stands where it ends
abbrev pub count_on : LaneCount → LaneState → ℕ
count_on Owed lane = lane.owed
count_on Held lane = length lane.held
count_on Flight lane = length lane.flight
count_on Posts lane = count_by is_post lane.standing
count_on Requests lane = count_by is_request lane.standing
count_on Completions lane = count_by is_completion lane.standing

-- how many operations a master has
abbrev pub ops_of : Board → ℕ → ℕ
ops_of board master = option_map_or (λ agent. length agent.ops) (slice_get board.masters master) 0

-- the place of its turn in its program, or the number of its operations where the program ended
abbrev pub index_of : ℕ → Option OpId → ℕ
index_of ops None = ops
index_of ops (Some o) = o.index

-- the try of it, or 0
abbrev pub try_of : Option OpId → ℕ
try_of None = 0
try_of (Some o) = o.attempt

-- whether the master presented the operation in an event
abbrev pub is_presented_by : OpId → By → OpId → Bool
is_presented_by o Master p = same_op p o
is_presented_by o (ByLane lane) p = false

-- the event is one in which its master presented the operation
abbrev pub presents_in : OpId → Event → Bool
presents_in o (Act on by p step place) = is_presented_by o by p
presents_in o (Arrive lane mark) = false

-- a master waits: it presented its turn before
abbrev pub waits : List Event → Option OpId → Bool
waits h None = false
waits h (Some o) = list_any (presents_in o) h

-- the stall tokens of a target
abbrev pub stalls_of : Board → ℕ → ℕ
stalls_of board target = option_map_or (λ agent. agent.stalls) (slice_get board.targets target) 0

-- what a signal shows in a moment
abbrev pub shown : Board → Moment → Signal → Shown
shown board m (Bus bus part) = if is_event_on board bus m.event then part_of board part m.before m.event else idle_part part
shown board m (Lane lane count) = Number (count_on count (world_of board (past m) lane))
shown board m (Index master) = Number (index_of (ops_of board master) (turn_of board (past m) master))
shown board m (Try master) = Number (try_of (turn_of board (past m) master))
shown board m (Waits master) = Level (waits (past m) (turn_of board (past m) master))
shown board m (Stall target) = Number (stalls_of board target - stalls_used (past m) target)
