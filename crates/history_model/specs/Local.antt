-- What one bus knows of a run, and which items a lawful peer sends to it.
use Rattle.std.specs.Prelude.{◌≡◌, ℕ, Bool, true, false, List, [], ◌∷◌, Option, Some, None, count_by, not, ◌&&◌, ◌==◌, nat_lt}
use Rattle.std.specs.List.{find, list_any}
use Rattle.pci_command.specs.declared.op_id.OpId.{OpId}
use Rattle.pci_command.specs.Same.{same_op}
use Rattle.board_model.specs.declared.bridge.Bridge.{Bridge}
use Rattle.board_model.specs.declared.bridge.Lane.{Lane as BridgeLane}
use Rattle.board_model.specs.declared.bridge.Place.{Place}
use Rattle.board_model.specs.declared.bridge.Place.TheVariants.{Target, Header, Lane, Nobody}
use Rattle.board_model.specs.declared.board.Board.{Board}
use Rattle.board_model.specs.Ways.{end_of, lane_back}
use Rattle.history_model.specs.declared.event.By.{By}
use Rattle.history_model.specs.declared.event.Step.{Step}
use Rattle.history_model.specs.declared.event.Step.TheVariants.{Land, Part, Read, Accept, Latch, Take, Stall, MasterAbort, TargetAbort}
use Rattle.history_model.specs.declared.event.Event.{Event}
use Rattle.history_model.specs.declared.event.Event.TheVariants.{Act, Arrive}
use Rattle.history_model.specs.declared.item.Carried.{Carried}
use Rattle.history_model.specs.declared.item.Carried.TheVariants.{Post, Ask, Done, Room, Gone}
use Rattle.history_model.specs.declared.item.Slot.{Slot}
use Rattle.history_model.specs.declared.item.Answer.TheVariants.{Gives}
use Rattle.history_model.specs.Lanes.{LaneState, empty_lane, is_done_for, is_post, has_number}
use Rattle.history_model.specs.World.{World, is_own, after, world_of}
use Rattle.history_model.specs.Answers.{wants_in, answer_in, bridge_to}
use Rattle.history_model.specs.Runs.{next_mark_in}

-- Local runs.

-- the bus that an event is on: an arrival is on the bus where its lane ends
abbrev pub bus_of : Board → Event → ℕ
bus_of board (Act on by o step place) = on
bus_of board (Arrive lane mark) = end_of board lane

-- the lanes before the first event of a bus: all that comes to it is in flight, and nothing else
abbrev pub coming : (BridgeLane → List Carried) → World
coming came lane = record empty_lane { flight = came lane }

-- the lanes as the bus knows them: `came` is what comes to it, whenever it was sent
abbrev pub local_world : Board → (BridgeLane → List Carried) → List Event → World
local_world board came [] lane = coming came lane
local_world board came (e ∷ h) lane = after board (local_world board came h) e lane

-- allowed by what the bus knows
abbrev pub AllowedLocally : Board → (BridgeLane → List Carried) → List Event → Event → Type 0
AllowedLocally board came h (Act on by o step place) =
    (wants_in board (local_world board came h) h on by o ≡ true) × (answer_in board (local_world board came h) h on by o ≡ Gives step place)
AllowedLocally board came h (Arrive lane mark) = next_mark_in board (local_world board came h) lane ≡ Some mark

-- what one bus did is allowed by what it did before and by what came to it on the lanes that end there
abbrev pub LocalRun : Board → ℕ → (BridgeLane → List Carried) → List Event → Type 0
LocalRun board bus came [] = Unit {0}
LocalRun board bus came (e ∷ h) = (bus_of board e ≡ bus) × AllowedLocally board came h e × LocalRun board bus came h

-- Matched runs.

-- a completion of the operation
abbrev pub is_done_of : OpId → Carried → Bool
is_done_of o (Post op) = false
is_done_of o (Ask op slot) = false
is_done_of o (Done op slot outcome) = same_op op o
is_done_of o Room = false
is_done_of o (Gone slot) = false

-- an item, where there is one, is a completion of the operation
abbrev pub completes : OpId → Option Carried → Bool
completes o None = false
completes o (Some item) = is_done_of o item

-- the slot is held for the operation, and the completion that comes for it is of the operation
abbrev pub slot_completes : List Carried → OpId → Option Slot → Bool
slot_completes coming o None = false
slot_completes coming o (Some slot) = same_op slot.op o && completes o (find (is_done_for slot.number) coming)

-- the own slot at the lane, and the completion that stands for it, are both of the operation itself
abbrev pub takes_its_own : Board → World → ℕ → By → OpId → BridgeLane → Bool
takes_its_own board world on by o lane =
    slot_completes (world (lane_back lane)).standing o (find (is_own board on by o) (world lane).held)

-- the same of the place that claims; only a lane gives completions
abbrev pub takes_at : Board → World → ℕ → By → OpId → Place → Bool
takes_at board world on by o (Target target) = true
takes_at board world on by o (Header bus) = true
takes_at board world on by o (Lane lane) = takes_its_own board world on by o lane
takes_at board world on by o Nobody = true

-- the same of a step; only a take is meant
abbrev pub is_matched_step : Board → World → ℕ → By → OpId → Step → Place → Bool
is_matched_step board world on by o Land place = true
is_matched_step board world on by o (Part phases) place = true
is_matched_step board world on by o (Read value) place = true
is_matched_step board world on by o Accept place = true
is_matched_step board world on by o Latch place = true
is_matched_step board world on by o (Take outcome) place = takes_at board world on by o place
is_matched_step board world on by o Stall place = true
is_matched_step board world on by o MasterAbort place = true
is_matched_step board world on by o TargetAbort place = true

-- the event takes no completion that was made for another operation
abbrev pub is_matched : Board → List Event → Event → Bool
is_matched board h (Act on by o step place) = is_matched_step board (world_of board h) on by o step place
is_matched board h (Arrive lane mark) = true

-- each completion is taken by the operation that it was made for
abbrev pub Matched : Board → List Event → Type 0
Matched board [] = Unit {0}
Matched board (e ∷ h) = (is_matched board h e ≡ true) × Matched board h

-- Lawful peers.

-- a delayed request
abbrev pub is_ask : Carried → Bool
is_ask (Post op) = false
is_ask (Ask op slot) = true
is_ask (Done op slot outcome) = false
is_ask Room = false
is_ask (Gone slot) = false

-- the delayed request of the slot
abbrev pub is_ask_of : ℕ → Carried → Bool
is_ask_of number (Post op) = false
is_ask_of number (Ask op slot) = slot == number
is_ask_of number (Done op slot outcome) = false
is_ask_of number Room = false
is_ask_of number (Gone slot) = false

-- the word that the request of the slot was dropped
abbrev pub is_gone_of : ℕ → Carried → Bool
is_gone_of number (Post op) = false
is_gone_of number (Ask op slot) = false
is_gone_of number (Done op slot outcome) = false
is_gone_of number Room = false
is_gone_of number (Gone slot) = slot == number

-- the slot has the number and is held for the operation
abbrev pub is_held_for : ℕ → OpId → Slot → Bool
is_held_for number o slot = has_number number slot && same_op slot.op o

-- a face takes an item from its lane where its tables have room for it and what it answers is asked there:
-- `standing` is what stands on the lane, `held` and `owed` what the face keeps of the lane back
abbrev pub is_lawful : ℕ → ℕ → List Carried → List Slot → ℕ → Carried → Bool
is_lawful posted delayed standing held owed (Post op) = nat_lt (count_by is_post standing) posted
is_lawful posted delayed standing held owed (Ask op slot) =
    nat_lt slot delayed && nat_lt (count_by is_ask standing) delayed && not (list_any (is_ask_of slot) standing)
is_lawful posted delayed standing held owed (Done op slot outcome) =
    list_any (is_held_for slot op) held && not (list_any (is_done_for slot) standing)
is_lawful posted delayed standing held owed Room = nat_lt 0 owed
is_lawful posted delayed standing held owed (Gone slot) =
    list_any (has_number slot) held && not (list_any (is_done_for slot) standing)

-- the same with the depths of the bridge, where it is there
abbrev pub is_lawful_at : LaneState → LaneState → Carried → Option Bridge → Bool
is_lawful_at here back item None = false
is_lawful_at here back item (Some bridge) = is_lawful bridge.posted bridge.delayed here.standing back.held back.owed item

-- the item may come next on the lane
abbrev pub is_lawful_on : Board → World → BridgeLane → Carried → Bool
is_lawful_on board world lane item =
    is_lawful_at (world lane) (world (lane_back lane)) item (bridge_to board lane.bus)
