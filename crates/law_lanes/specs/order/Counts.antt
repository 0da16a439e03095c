-- Delayed requests latched at a lane, and slots that were freed there: PCI Local Bus Specification 2.2,
-- section 3.3.3.3 (from memory; delayed transactions).
use Rattle.std.specs.Prelude.{ℕ, ◌+◌, List, [], ◌∷◌, if◌then◌else◌}
use Rattle.board_model.specs.declared.bridge.Lane.{Lane as BridgeLane}
use Rattle.board_model.specs.declared.bridge.Place.{Place}
use Rattle.board_model.specs.declared.bridge.Place.TheVariants.{Target, Header, Lane, Nobody}
use Rattle.board_model.specs.declared.board.Board.{Board}
use Rattle.history_model.specs.declared.event.Mark.{Mark}
use Rattle.history_model.specs.declared.event.Step.{Step}
use Rattle.history_model.specs.declared.event.Step.TheVariants.{Land, Part, Read, Accept, Latch, Take, Stall, MasterAbort, TargetAbort}
use Rattle.history_model.specs.declared.event.Event.{Event}
use Rattle.history_model.specs.declared.event.Event.TheVariants.{Act, Arrive}
use Rattle.history_model.specs.declared.item.Carried.{Carried}
use Rattle.history_model.specs.Lanes.{Effect, Stands, Credits, Frees, Drops, effect_of}
use Rattle.history_model.specs.World.{World, same_lane, world_of}
use Rattle.board_model.specs.Ways.{lane_back}

-- 1 where the place is the lane
abbrev pub one_at : BridgeLane → Place → ℕ
one_at lane (Target target) = 0
one_at lane (Header bus) = 0
one_at lane (Lane at) = if same_lane at lane then 1 else 0
one_at lane Nobody = 0

-- 1 where the step latches a delayed request at the lane
abbrev pub latched_by : BridgeLane → Step → Place → ℕ
latched_by lane Land place = 0
latched_by lane (Part phases) place = 0
latched_by lane (Read value) place = 0
latched_by lane Accept place = 0
latched_by lane Latch place = one_at lane place
latched_by lane (Take outcome) place = 0
latched_by lane Stall place = 0
latched_by lane MasterAbort place = 0
latched_by lane TargetAbort place = 0

-- 1 where the event does
abbrev pub latched_in : BridgeLane → Event → ℕ
latched_in lane (Act on by o step place) = latched_by lane step place
latched_in lane (Arrive at mark) = 0

-- how many delayed requests were latched at the lane
abbrev pub latched : BridgeLane → List Event → ℕ
latched lane [] = 0
latched lane (e ∷ h) = latched_in lane e + latched lane h

-- a completion that is taken frees its slot
abbrev pub taken_by : BridgeLane → Step → Place → ℕ
taken_by lane Land place = 0
taken_by lane (Part phases) place = 0
taken_by lane (Read value) place = 0
taken_by lane Accept place = 0
taken_by lane Latch place = 0
taken_by lane (Take outcome) place = one_at lane place
taken_by lane Stall place = 0
taken_by lane MasterAbort place = 0
taken_by lane TargetAbort place = 0

-- and so do, as they arrive, a completion that is discarded and the word that a request was dropped
abbrev pub freed_by : Effect → ℕ
freed_by Stands = 0
freed_by Credits = 0
freed_by (Frees slot) = 1
freed_by (Drops slot) = 0

-- how many slots the first item in flight frees, as it arrives with this mark
abbrev pub freed_first : Mark → List Carried → ℕ
freed_first mark [] = 0
freed_first mark (item ∷ rest) = freed_by (effect_of mark item)

-- how many slots of the lane the event frees, with this on the lanes before it
abbrev pub freed_in : World → BridgeLane → Event → ℕ
freed_in world lane (Act on by o step place) = taken_by lane step place
freed_in world lane (Arrive at mark) = if same_lane (lane_back at) lane then freed_first mark (world at).flight else 0

-- how many slots of the lane were freed
abbrev pub freed : Board → BridgeLane → List Event → ℕ
freed board lane [] = 0
freed board lane (e ∷ h) = freed_in (world_of board h) lane e + freed board lane h
