-- The moves of an event: what it does to the lanes, item by item and slot by slot, in this order.
use Rattle.std.specs.Prelude.{ℕ, Bool, false, ◌+◌, ◌-◌, List, [], ◌∷◌, ◌++◌, map, Option, Some, None, if◌then◌else◌}
use Rattle.std.specs.List.{find}
use Rattle.std.specs.Option.{option_map}
use Rattle.list_facts.specs.Lists.{less}
use Rattle.pci_command.specs.declared.op_id.OpId.{OpId}
use Rattle.pci_command.specs.declared.op_id.Outcome.{Outcome}
use Rattle.board_model.specs.declared.bridge.Lane.{Lane as BridgeLane}
use Rattle.board_model.specs.declared.bridge.Place.{Place}
use Rattle.board_model.specs.declared.bridge.Place.TheVariants.{Target, Header, Lane, Nobody}
use Rattle.board_model.specs.declared.board.Board.{Board}
use Rattle.board_model.specs.Ways.{lane_back}
use Rattle.history_model.specs.declared.event.By.{By}
use Rattle.history_model.specs.declared.event.By.TheVariants.{Master, Lane as ByLane}
use Rattle.history_model.specs.declared.event.Mark.{Mark}
use Rattle.history_model.specs.declared.event.Step.{Step}
use Rattle.history_model.specs.declared.event.Step.TheVariants.{Land, Part, Read, Accept, Latch, Take, Stall, MasterAbort, TargetAbort}
use Rattle.history_model.specs.declared.event.Event.{Event}
use Rattle.history_model.specs.declared.event.Event.TheVariants.{Act, Arrive}
use Rattle.history_model.specs.declared.item.Carried.{Carried}
use Rattle.history_model.specs.declared.item.Carried.TheVariants.{Post, Ask, Done, Room, Gone}
use Rattle.history_model.specs.declared.item.Move.{Move}
use Rattle.history_model.specs.declared.item.Move.TheVariants.{Sent, Came, Lost, Left, Held, Freed, Owed, Paid}
use Rattle.history_model.specs.declared.item.Moved.{Moved}
use Rattle.history_model.specs.declared.item.Slot.{Slot}
use Rattle.history_model.specs.declared.rule.Rule.{Rule}
use Rattle.history_model.specs.Lanes.{LaneState, Effect, Stands, Credits, Frees, Drops, is_of, is_done_for, has_number, lowest_free, reply_to, effect_of, came_off}
use Rattle.history_model.specs.World.{World, same_lane, is_own, noted, lane_outcome}

-- What an event finds.

-- the slot that a step takes, or that is held from now on, of those held where the lane that claims begins
abbrev pub slot_moved : Board → ℕ → By → OpId → Step → List Slot → Option ℕ
slot_moved board on by o Land held = None
slot_moved board on by o (Part phases) held = None
slot_moved board on by o (Read value) held = None
slot_moved board on by o Accept held = None
slot_moved board on by o Latch held = Some (lowest_free held)
slot_moved board on by o (Take outcome) held = option_map (λ (slot : Slot). slot.number) (find (is_own board on by o) held)
slot_moved board on by o Stall held = None
slot_moved board on by o MasterAbort held = None
slot_moved board on by o TargetAbort held = None

-- only a lane has slots
abbrev pub slot_at : Board → ℕ → By → OpId → Step → Place → World → Option ℕ
slot_at board on by o step (Target target) world = None
slot_at board on by o step (Header bus) world = None
slot_at board on by o step (Lane lane) world = slot_moved board on by o step (world lane).held
slot_at board on by o step Nobody world = None

-- what ends by the outcome, if there is one: the oldest of the operation
abbrev pub item_moved : OpId → Option Outcome → List Carried → Option Carried
item_moved o None standing = None
item_moved o (Some outcome) standing = find (is_of o) standing

-- only what a lane presented ends on a lane
abbrev pub item_by : Board → By → OpId → Step → World → Option Carried
item_by board Master o step world = None
item_by board (ByLane lane) o step world = item_moved o (lane_outcome board lane o step) (world lane).standing

-- the oldest of these
abbrev pub oldest : List Carried → Option Carried
oldest [] = None
oldest (item ∷ later) = Some item

-- under a rule: what an event finds, with this on the lanes before it
abbrev pub moved_by : Rule → Board → World → Event → Moved
moved_by rule board world (Act on by o step place) =
    record { slot = slot_at board on (noted rule by) o step place world; item = item_by board by o step world }
moved_by rule board world (Arrive lane mark) = record { slot = None; item = oldest (world lane).flight }

-- What it does.

-- the word that a request was dropped goes back
abbrev pub word_back : BridgeLane → ℕ → Carried → List Move
word_back lane number (Post op) = []
word_back lane number (Ask op slot) = Sent (lane_back lane) op (Gone number) ∷ []
word_back lane number (Done op slot outcome) = []
word_back lane number Room = []
word_back lane number (Gone slot) = []

-- of an arrival, by its effect
abbrev pub effect_moves : BridgeLane → Carried → Effect → List Move
effect_moves lane item Stands = Came lane item ∷ []
effect_moves lane item Credits = Lost lane item ∷ Paid (lane_back lane) ∷ []
effect_moves lane item (Frees slot) = Lost lane item ∷ Freed (lane_back lane) slot ∷ []
effect_moves lane item (Drops slot) = Lost lane item ∷ word_back lane slot item

-- where something came
abbrev pub arrival_moves : BridgeLane → Mark → Option Carried → List Move
arrival_moves lane mark None = []
arrival_moves lane mark (Some item) = effect_moves lane item (effect_of mark item)

-- a request is latched: a slot is held for it, and it is sent
abbrev pub latch_moves : BridgeLane → By → OpId → Option ℕ → List Move
latch_moves lane by o None = []
latch_moves lane by o (Some number) = Held lane (record { number = number; by = by; op = o }) ∷ Sent lane o (Ask o number) ∷ []

-- a completion is taken: its slot is free, and it leaves the lane back
abbrev pub take_moves : BridgeLane → OpId → Outcome → Option ℕ → List Move
take_moves lane o outcome None = []
take_moves lane o outcome (Some number) = Freed lane number ∷ Left (lane_back lane) (Done o number outcome) ∷ []

-- of a step, at the lane that claims
abbrev pub claim_moves : BridgeLane → By → OpId → Step → Option ℕ → List Move
claim_moves lane by o Land slot = []
claim_moves lane by o (Part phases) slot = []
claim_moves lane by o (Read value) slot = []
claim_moves lane by o Accept slot = Sent lane o (Post o) ∷ Owed lane ∷ []
claim_moves lane by o Latch slot = latch_moves lane by o slot
claim_moves lane by o (Take outcome) slot = take_moves lane o outcome slot
claim_moves lane by o Stall slot = []
claim_moves lane by o MasterAbort slot = []
claim_moves lane by o TargetAbort slot = []

-- at the place that claims
abbrev pub place_moves : By → OpId → Step → Place → Option ℕ → List Move
place_moves by o step (Target target) slot = []
place_moves by o step (Header bus) slot = []
place_moves by o step (Lane lane) slot = claim_moves lane by o step slot
place_moves by o step Nobody slot = []

-- an item of the operation ends: it leaves its lane, and its credit or completion is sent on the lane back
abbrev pub end_moves : BridgeLane → OpId → Option Outcome → Option Carried → List Move
end_moves lane o None item = []
end_moves lane o (Some outcome) None = []
end_moves lane o (Some outcome) (Some item) = Left lane item ∷ map (Sent (lane_back lane) o) (reply_to outcome (Some item))

-- at the initiator
abbrev pub initiator_moves : Board → By → OpId → Step → Option Carried → List Move
initiator_moves board Master o step item = []
initiator_moves board (ByLane lane) o step item = end_moves lane o (lane_outcome board lane o step) item

-- under a rule: what an event does that found this
abbrev pub moves_in : Rule → Board → Event → Moved → List Move
moves_in rule board (Act on by o step place) found = place_moves (noted rule by) o step place found.slot ++ initiator_moves board by o step found.item
moves_in rule board (Arrive lane mark) found = arrival_moves lane mark found.item

-- What is on the lanes then.

-- what is like an item: of a request what is of its operation, of a completion that of its slot
abbrev pub is_like : Carried → Carried → Bool
is_like (Post op) = is_of op
is_like (Ask op slot) = is_of op
is_like (Done op slot outcome) = is_done_for slot
is_like Room = λ other. false
is_like (Gone slot) = λ other. false

-- these without the oldest
abbrev pub younger : List Carried → List Carried
younger [] = []
younger (item ∷ later) = later

-- the lane that a move is of
abbrev pub lane_of : Move → BridgeLane
lane_of (Sent lane op item) = lane
lane_of (Came lane item) = lane
lane_of (Lost lane item) = lane
lane_of (Left lane item) = lane
lane_of (Held lane slot) = lane
lane_of (Freed lane number) = lane
lane_of (Owed lane) = lane
lane_of (Paid lane) = lane

-- what a move makes of that lane
abbrev pub put_on : Move → LaneState → LaneState
put_on (Sent lane op item) x = record x { flight = x.flight ++ item ∷ [] }
put_on (Came lane item) x = record (came_off item (younger x.flight) x) { standing = x.standing ++ item ∷ [] }
put_on (Lost lane item) x = came_off item (younger x.flight) x
put_on (Left lane item) x = record x { standing = less (is_like item) x.standing }
put_on (Held lane slot) x = record x { held = x.held ++ slot ∷ [] }
put_on (Freed lane number) x = record x { held = less (has_number number) x.held }
put_on (Owed lane) x = record x { owed = x.owed + 1 }
put_on (Paid lane) x = record x { owed = x.owed - 1 }

-- what is on each lane after a move
abbrev pub put_move : Move → World → World
put_move move world lane = if same_lane lane (lane_of move) then put_on move (world lane) else world lane

-- after these, one after another
abbrev pub put_moves : List Move → World → World
put_moves [] world = world
put_moves (move ∷ moves) world = put_moves moves (put_move move world)
