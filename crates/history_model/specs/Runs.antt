-- Runs: each event is allowed after those before it. Histories are newest first; a trace prints them
-- oldest first.
use Rattle.std.specs.Prelude.{◌≡◌, ℕ, Bool, true, false, ◌+◌, ◌<◌, List, [], ◌∷◌, length, reverse, Option, Some, None, ◌&&◌, ◌==◌, if◌then◌else◌}
use Rattle.std.specs.List.{list_any, AllByRecursion}
use Rattle.board_model.specs.declared.board.Board.{Board}
use Rattle.board_model.specs.declared.board.Planned.{Planned}
use Rattle.board_model.specs.declared.bridge.Bridge.{Bridge}
use Rattle.board_model.specs.declared.bridge.Lane.{Lane as BridgeLane}
use Rattle.history_model.specs.declared.event.Mark.{Mark}
use Rattle.history_model.specs.declared.event.Mark.TheVariants.{Plain, Discard, Drop}
use Rattle.history_model.specs.declared.event.Event.{Event}
use Rattle.history_model.specs.declared.event.Event.TheVariants.{Act, Arrive}
use Rattle.history_model.specs.declared.item.Carried.{Carried}
use Rattle.history_model.specs.declared.item.Carried.TheVariants.{Post, Ask, Done, Room, Gone}
use Rattle.history_model.specs.declared.item.Answer.TheVariants.{Gives}
use Rattle.history_model.specs.Lanes.{LaneState}
use Rattle.history_model.specs.declared.rule.Rule.{Rule}
use Rattle.history_model.specs.declared.rule.Rule.TheVariants.{Tagged}
use Rattle.history_model.specs.World.{World, same_lane, world_by, world_of}
use Rattle.history_model.specs.Program.{turn_of}
use Rattle.history_model.specs.Answers.{wants_by, answer_by_rule}

-- a line of the board names this item, by its number among those of its kind on the lane
abbrev pub names : BridgeLane → ℕ → Planned → Bool
names lane number planned = same_lane (record { bus = planned.bus; up = planned.up }) lane && planned.count == number

-- how the board marks the arrival of the item, which is the next of its lane
abbrev pub mark_of : Board → BridgeLane → LaneState → Carried → Mark
mark_of board lane state (Post op) = Plain
mark_of board lane state (Ask op slot) = if list_any (names lane (state.asks + 1)) board.drops then Drop else Plain
mark_of board lane state (Done op slot outcome) =
    if list_any (names lane (state.dones + 1)) board.discards then Discard else Plain
mark_of board lane state Room = Plain
mark_of board lane state (Gone slot) = Plain

-- the mark of the first of these items, where there is one
abbrev pub mark_of_first : Board → BridgeLane → LaneState → List Carried → Option Mark
mark_of_first board lane state [] = None
mark_of_first board lane state (item ∷ rest) = Some (mark_of board lane state item)

-- the mark of the next arrival on the lane; none where nothing is in flight
abbrev pub next_mark_in : Board → World → BridgeLane → Option Mark
next_mark_in board world lane = mark_of_first board lane (world lane) (world lane).flight

-- the mark of the next arrival on the lane after the history
abbrev pub next_mark : Board → List Event → BridgeLane → Option Mark
next_mark board h lane = next_mark_in board (world_of board h) lane

-- under a rule: the event may be the next after the history
abbrev pub AllowedBy : Rule → Board → List Event → Event → Type 0
AllowedBy rule board h (Act on by o step place) = (wants_by rule board h on by o ≡ true) × (answer_by_rule rule board h on by o ≡ Gives step place)
AllowedBy rule board h (Arrive lane mark) = next_mark_in board (world_by rule board h) lane ≡ Some mark

-- the event may be the next after the history: an act where its initiator presents the operation and this is its
-- answer; an arrival where something is in flight on the lane, with the mark that the board gives it
abbrev pub Allowed : Board → List Event → Event → Type 0
Allowed board h e = AllowedBy Tagged board h e

-- under a rule: the history is a run
abbrev pub RunBy : Rule → Board → List Event → Type 0
RunBy rule board [] = Unit {0}
RunBy rule board (e ∷ h) = AllowedBy rule board h e × RunBy rule board h

-- the history is a run: each event is allowed after those before it
abbrev pub Run : Board → List Event → Type 0
Run board h = RunBy Tagged board h

-- nothing is in flight on a lane, and nothing stands
abbrev pub IsIdle : LaneState → Type 0
IsIdle state = (state.flight ≡ []) × (state.standing ≡ [])

-- the programs of all masters ended, and both lanes of every bridge are idle
pub record Complete (board : Board) (h : List Event) : Type 0 where
  pub ended : (master : ℕ) → master < length board.masters → turn_of board h master ≡ None
  pub idle : AllByRecursion (λ (bridge : Bridge). IsIdle (world_of board h (record { bus = bridge.bus; up = false }))
      × IsIdle (world_of board h (record { bus = bridge.bus; up = true }))) board.bridges

-- a trace is read from its first event on: as a history it stands the other way round
abbrev pub history_of : List Event → List Event
history_of events = reverse events
