-- What was sent on a lane, and how much of it came: PCI-to-PCI Bridge Architecture Specification 1.1,
-- chapter 5 (from memory; buffer management).
use Rattle.std.specs.Prelude.{ℕ, ◌+◌, List, [], ◌∷◌, ◌++◌, take, Option, Some, None, if◌then◌else◌}
use Rattle.std.specs.List.{find}
use Rattle.pci_command.specs.declared.op_id.OpId.{OpId}
use Rattle.pci_command.specs.declared.op_id.Outcome.{Outcome}
use Rattle.board_model.specs.declared.bridge.Lane.{Lane as BridgeLane}
use Rattle.board_model.specs.declared.bridge.Place.{Place}
use Rattle.board_model.specs.declared.bridge.Place.TheVariants.{Target, Header, Lane, Nobody}
use Rattle.board_model.specs.declared.board.Board.{Board}
use Rattle.history_model.specs.declared.event.By.{By}
use Rattle.history_model.specs.declared.event.By.TheVariants.{Master, Lane as ByLane}
use Rattle.history_model.specs.declared.event.Mark.{Mark}
use Rattle.history_model.specs.declared.event.Step.{Step}
use Rattle.history_model.specs.declared.event.Step.TheVariants.{Land, Part, Read, Accept, Latch, Take, Stall, MasterAbort, TargetAbort}
use Rattle.history_model.specs.declared.event.Event.{Event}
use Rattle.history_model.specs.declared.event.Event.TheVariants.{Act, Arrive}
use Rattle.history_model.specs.declared.item.Carried.{Carried}
use Rattle.history_model.specs.declared.item.Carried.TheVariants.{Post, Ask, Gone}
use Rattle.history_model.specs.declared.item.Slot.{Slot}
use Rattle.history_model.specs.Lanes.{lowest_free, is_of, reply_to, Effect, Stands, Credits, Frees, Drops, effect_of}
use Rattle.history_model.specs.World.{World, same_lane, lane_outcome, world_of}
use Rattle.board_model.specs.Ways.{lane_back}

-- an accepted posted write is sent, and a latched delayed request with the lowest free slot
abbrev pub item_for : List Slot → OpId → Step → List Carried
item_for held o Land = []
item_for held o (Part phases) = []
item_for held o (Read value) = []
item_for held o Accept = Post o ∷ []
item_for held o Latch = Ask o (lowest_free held) ∷ []
item_for held o (Take outcome) = []
item_for held o Stall = []
item_for held o MasterAbort = []
item_for held o TargetAbort = []

-- the item that the step sends on this lane, where the lane is the one that claims
abbrev pub sent_to : World → BridgeLane → OpId → Step → Place → List Carried
sent_to world lane o step (Target target) = []
sent_to world lane o step (Header bus) = []
sent_to world lane o step (Lane at) = if same_lane at lane then item_for (world lane).held o step else []
sent_to world lane o step Nobody = []

-- what goes back for the item that a lane presented, where the step ends it
abbrev pub reply_for : World → OpId → BridgeLane → Option Outcome → List Carried
reply_for world o at None = []
reply_for world o at (Some outcome) = reply_to outcome (find (is_of o) (world at).standing)

-- what the step sends on this lane for an item that its lane back presented
abbrev pub sent_back : Board → World → BridgeLane → By → OpId → Step → List Carried
sent_back board world lane Master o step = []
sent_back board world lane (ByLane at) o step =
    if same_lane (lane_back at) lane then reply_for world o at (lane_outcome board at o step) else []

-- the word that a delayed request was dropped
abbrev pub dropped_by : Effect → List Carried
dropped_by Stands = []
dropped_by Credits = []
dropped_by (Frees slot) = []
dropped_by (Drops slot) = Gone slot ∷ []

-- the same of the first item in flight, as it arrives with this mark
abbrev pub dropped_first : Mark → List Carried → List Carried
dropped_first mark [] = []
dropped_first mark (item ∷ rest) = dropped_by (effect_of mark item)

-- what the event sends on the lane, with this on the lanes before it
abbrev pub sending : Board → World → BridgeLane → Event → List Carried
sending board world lane (Act on by o step place) = sent_to world lane o step place ++ sent_back board world lane by o step
sending board world lane (Arrive at mark) = if same_lane (lane_back at) lane then dropped_first mark (world at).flight else []

-- all that was sent on the lane, in the order of sending
abbrev pub sent : Board → BridgeLane → List Event → List Carried
sent board lane [] = []
sent board lane (e ∷ h) = sent board lane h ++ sending board (world_of board h) lane e

-- 1 where the event is an arrival on the lane
abbrev pub arrives_by : BridgeLane → Event → ℕ
arrives_by lane (Act on by o step place) = 0
arrives_by lane (Arrive at mark) = if same_lane at lane then 1 else 0

-- how many arrivals there were on the lane
abbrev pub arrivals : BridgeLane → List Event → ℕ
arrivals lane [] = 0
arrivals lane (e ∷ h) = arrives_by lane e + arrivals lane h

-- what came on the lane: the first of what was sent, as many as arrived
abbrev pub came : Board → BridgeLane → List Event → List Carried
came board lane h = take (arrivals lane h) (sent board lane h)
