-- What is kept of a history, and what each event makes of it.
use Rattle.std.specs.Prelude.{ℕ, Bool, ◌+◌, ◌-◌, ◌<◌, ◌^◌, List, [], Option, Some, None, ◌&&◌, ◌==◌, if◌then◌else◌, slice_get}
use Rattle.std.specs.List.{position}
use Rattle.board_model.specs.declared.word.Word.{Word}
use Rattle.pci_command.specs.declared.op_id.OpId.{OpId}
use Rattle.board_model.specs.declared.bridge.Bridge.{Bridge}
use Rattle.board_model.specs.declared.bridge.Lane.{Lane as BridgeLane}
use Rattle.board_model.specs.declared.board.Board.{Board}
use Rattle.board_model.specs.Ways.{end_of}
use Rattle.history_model.specs.declared.event.By.{By}
use Rattle.history_model.specs.declared.event.By.TheVariants.{Master, Lane as ByLane}
use Rattle.history_model.specs.declared.event.Mark.{Mark}
use Rattle.history_model.specs.declared.rule.Rule.{Rule}
use Rattle.history_model.specs.Lanes.{LaneState, Both, empty_lane}
use Rattle.history_model.specs.Answers.{is_on, is_turn, presents_by}
use Rattle.history_model.specs.Runs.{mark_of_first}
use Rattle.judge_lanes.specs.Bridge.{turned, lanes_after}
use Rattle.list_facts.specs.Lists.{changed_at}
use Rattle.machine_steps.specs.Counts.{or_zero}
use Rattle.board_model.specs.declared.bridge.Place.{Place}
use Rattle.board_model.specs.declared.bridge.Place.TheVariants.{Target, Header, Lane, Nobody}
use Rattle.history_model.specs.declared.event.Step.{Step}
use Rattle.history_model.specs.declared.event.Step.TheVariants.{Land, Part, Read, Accept, Latch, Take, Stall, MasterAbort, TargetAbort}
use Rattle.history_model.specs.Program.{turn_after, ended}
use Rattle.history_model.specs.declared.event.Event.{Event}
use Rattle.history_model.specs.declared.event.Event.TheVariants.{Act, Arrive}

-- where the value of each word is
abbrev pub WordPlaces : Type 0
WordPlaces = List (Word × ℕ)

-- what is kept of a run
pub record KeptState : Type 0 where
  -- the rule of the bridge by which it is judged
  pub rule : Rule
  -- the turn of each master, in the order of the board
  pub turns : List (Option OpId)
  -- the lanes of each bridge, in the order of the board
  pub lanes : List Both
  -- the stall tokens left of each target, in the order of the board
  pub tokens : List ℕ
  -- how many data phases went through, of each operation of each master
  pub gone : List (List ℕ)
  -- the words that the programs touch: where each is, and what it holds
  pub places : WordPlaces
  pub values : List ℕ

-- what is there, of what may be there
abbrev pub flat : {X : Type 0} → Option (Option X) → Option X
flat None = None
flat (Some x) = x

-- the turn of a master; none where its program ended, and of no master
abbrev pub turn_in : List (Option OpId) → ℕ → Option OpId
turn_in turns master = flat (slice_get turns master)

-- the place of the bridge to a bus
abbrev pub place_of : Board → ℕ → Option ℕ
place_of board bus = position (λ (bridge : Bridge). bridge.bus == bus) board.bridges

-- the lanes at a place of the list
abbrev pub lanes_at : List Both → Option ℕ → Option Both
lanes_at lanes None = None
lanes_at lanes (Some place) = slice_get lanes place

-- the lanes of the bridge to a bus
abbrev pub lanes_in : Board → List Both → ℕ → Option Both
lanes_in board lanes bus = lanes_at lanes (place_of board bus)

-- the lane in this direction, of what may be the lanes of a bridge
abbrev pub lane_from : Bool → Option Both → LaneState
lane_from up None = empty_lane
lane_from up (Some x) = (turned up x).here

-- one lane; nothing is on those of no bridge
abbrev pub lane_in : Board → List Both → BridgeLane → LaneState
lane_in board lanes lane = lane_from lane.up (lanes_in board lanes lane.bus)

-- Changes.

-- the list, where there is one, or else the empty one
abbrev pub list_in : {X : Type 0} → Option (List X) → List X
list_in None = []
list_in (Some xs) = xs

-- how many data phases of an operation went through
abbrev pub gone_in : List (List ℕ) → OpId → ℕ
gone_in gone o = or_zero (slice_get (list_in (slice_get gone o.master)) o.index)

-- so many more data phases of the operation went through
abbrev pub gone_added : OpId → ℕ → List (List ℕ) → List (List ℕ)
gone_added o more gone = changed_at (λ row. changed_at (λ n. n + more) row (Some o.index)) gone (Some o.master)

-- only a part of a burst counts
abbrev pub gone_by : OpId → Step → List (List ℕ) → List (List ℕ)
gone_by o Land gone = gone
gone_by o (Part phases) gone = gone_added o phases gone
gone_by o (Read value) gone = gone
gone_by o Accept gone = gone
gone_by o Latch gone = gone
gone_by o (Take outcome) gone = gone
gone_by o Stall gone = gone
gone_by o MasterAbort gone = gone
gone_by o TargetAbort gone = gone

-- the counts after an event
abbrev pub gone_next : Event → List (List ℕ) → List (List ℕ)
gone_next (Act on by o step place) gone = gone_by o step gone
gone_next (Arrive lane mark) gone = gone

-- one more event happens to the lanes of the bridge to the bus
abbrev pub happens_on : Rule → Board → Event → Option ℕ → List Both → List Both
happens_on rule board e None lanes = lanes
happens_on rule board e (Some bus) lanes = changed_at (lanes_after rule board e bus) lanes (place_of board bus)

-- the bridges whose lanes an event changes: that of the lane that claims, and that of the lane that presents
abbrev pub bus_at : Place → Option ℕ
bus_at (Target target) = None
bus_at (Header bus) = None
bus_at (Lane lane) = Some lane.bus
bus_at Nobody = None

-- of the initiator
abbrev pub bus_by : By → Option ℕ
bus_by Master = None
bus_by (ByLane lane) = Some lane.bus

-- the second, where it is not the first
abbrev pub other_than : Option ℕ → Option ℕ → Option ℕ
other_than first None = None
other_than None (Some bus) = Some bus
other_than (Some first) (Some bus) = if first == bus then None else Some bus

-- the lanes after an event
abbrev pub lanes_next : Rule → Board → Event → List Both → List Both
lanes_next rule board (Act on by o step place) lanes =
    happens_on rule board (Act on by o step place) (other_than (bus_at place) (bus_by by))
    (happens_on rule board (Act on by o step place) (bus_at place) lanes)
lanes_next rule board (Arrive lane mark) lanes = happens_on rule board (Arrive lane mark) (Some lane.bus) lanes

-- The turn of its master after an event.
abbrev pub turn_changed : Board → Event → ℕ → List (Option OpId) → List (Option OpId)
turn_changed board e master turns = changed_at (λ turn. turn_after board master turn (ended e)) turns (Some master)

-- an act of a lane changes no turn
abbrev pub turns_by : Board → Event → By → OpId → List (Option OpId) → List (Option OpId)
turns_by board e Master o turns = turn_changed board e o.master turns
turns_by board e (ByLane lane) o turns = turns

-- the turns after an event
abbrev pub turns_next : Board → Event → List (Option OpId) → List (Option OpId)
turns_next board (Act on by o step place) turns = turns_by board (Act on by o step place) by o turns
turns_next board (Arrive lane mark) turns = turns

-- The stall tokens that are left.
abbrev pub tokens_in : List ℕ → ℕ → ℕ
tokens_in tokens target = or_zero (slice_get tokens target)

-- one is used, if there is one
abbrev pub token_used : List ℕ → ℕ → List ℕ
token_used tokens target = changed_at (λ n. n - 1) tokens (Some target)

-- only a target has tokens
abbrev pub tokens_at : List ℕ → Place → List ℕ
tokens_at tokens (Target target) = token_used tokens target
tokens_at tokens (Header bus) = tokens
tokens_at tokens (Lane lane) = tokens
tokens_at tokens Nobody = tokens

-- only a stall uses one
abbrev pub tokens_by : List ℕ → Step → Place → List ℕ
tokens_by tokens Land place = tokens
tokens_by tokens (Part phases) place = tokens
tokens_by tokens (Read value) place = tokens
tokens_by tokens Accept place = tokens
tokens_by tokens Latch place = tokens
tokens_by tokens (Take outcome) place = tokens
tokens_by tokens Stall place = tokens_at tokens place
tokens_by tokens MasterAbort place = tokens
tokens_by tokens TargetAbort place = tokens

-- the tokens after an event
abbrev pub tokens_next : Event → List ℕ → List ℕ
tokens_next (Act on by o step place) tokens = tokens_by tokens step place
tokens_next (Arrive lane mark) tokens = tokens

-- whether the initiator presents the operation on the bus
abbrev pub wants_now : Board → KeptState → ℕ → By → OpId → Bool
wants_now board k on Master o = is_on on (slice_get board.masters o.master) && is_turn o (turn_in k.turns o.master)
wants_now board k on (ByLane lane) o = end_of board lane == on && presents_by k.rule board on o (lane_in board k.lanes lane).standing

-- the mark of the next arrival on a lane
abbrev pub mark_in : Board → List Both → BridgeLane → Option Mark
mark_in board lanes lane = let here = lane_in board lanes lane in mark_of_first board lane here here.flight

-- the counts have room for the data phases that an event counts
abbrev pub gone_fits_by : OpId → Step → List (List ℕ) → Type 0
gone_fits_by o Land gone = Unit {0}
gone_fits_by o (Part phases) gone = gone_in gone o + phases < 2 ^ 32
gone_fits_by o (Read value) gone = Unit {0}
gone_fits_by o Accept gone = Unit {0}
gone_fits_by o Latch gone = Unit {0}
gone_fits_by o (Take outcome) gone = Unit {0}
gone_fits_by o Stall gone = Unit {0}
gone_fits_by o MasterAbort gone = Unit {0}
gone_fits_by o TargetAbort gone = Unit {0}

-- the same for each event
abbrev pub GoneFits : Event → List (List ℕ) → Type 0
GoneFits (Act on by o step place) gone = gone_fits_by o step gone
GoneFits (Arrive lane mark) gone = Unit {0}
