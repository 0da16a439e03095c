-- The journeys that an event has to do with: what arrives, or what a lane presents, and the completion that is taken; and
-- what an event would have to do with that did not happen.
use Rattle.std.specs.Prelude.{◌≡◌, ◌<◌, ◌≤◌, ℕ, ◌-◌, Bool, true, false, not, ◌&&◌, ◌||◌, ◌==◌, nat_lt, nat_le, List, Option, None, if◌then◌else◌}
use Rattle.std.specs.List.{find}
use Rattle.pci_command.specs.declared.op_id.OpId.{OpId}
use Rattle.pci_command.specs.Same.{same_op}
use Rattle.board_model.specs.declared.bridge.Lane.{Lane as BridgeLane}
use Rattle.board_model.specs.declared.bridge.Place.{Place}
use Rattle.board_model.specs.declared.bridge.Place.TheVariants.{Target, Header, Lane, Nobody}
use Rattle.board_model.specs.Ways.{lane_back}
use Rattle.history_model.specs.declared.item.Carried.{Carried}
use Rattle.history_model.specs.declared.item.Carried.TheVariants.{Post, Ask, Done, Room, Gone}
use Rattle.history_model.specs.declared.event.By.{By}
use Rattle.history_model.specs.declared.event.By.TheVariants.{Master, Lane as ByLane}
use Rattle.history_model.specs.declared.event.Step.{Step}
use Rattle.history_model.specs.declared.event.Step.TheVariants.{Land, Part, Read, Accept, Latch, Take, Stall, MasterAbort, TargetAbort}
use Rattle.history_model.specs.declared.event.Event.{Event}
use Rattle.history_model.specs.declared.event.Event.TheVariants.{Act, Arrive}
use Rattle.history_model.specs.Lanes.{is_of}
use Rattle.history_model.specs.World.{same_lane}
use Rattle.draw_items.specs.declared.journey.Journey.{Journey}
use Rattle.draw_items.specs.Journeys.{can_stand, has_come, has_left, flies, stands_at, is_there}

-- a completion
abbrev pub is_done : Carried → Bool
is_done (Post op) = false
is_done (Ask op slot) = false
is_done (Done op slot outcome) = true
is_done Room = false
is_done (Gone slot) = false

-- a completion of the operation
abbrev pub is_done_of : OpId → Carried → Bool
is_done_of o (Post op) = false
is_done_of o (Ask op slot) = false
is_done_of o (Done op slot outcome) = same_op o op
is_done_of o Room = false
is_done_of o (Gone slot) = false

-- What happened.

-- it came over the lane by event n
abbrev pub comes_in : ℕ → BridgeLane → Journey → Bool
comes_in n lane j = same_lane j.lane lane && j.came == n

-- it stood where the lane ends before event n, and is a posted write or a delayed request of the operation
abbrev pub is_presented_in : ℕ → BridgeLane → OpId → Journey → Bool
is_presented_in n lane o j = stands_at (n - 1) lane j && is_of o j.carried

-- what is presented of the operation in event n; of a master no journey
abbrev pub presented_in : ℕ → By → OpId → List Journey → Option Journey
presented_in n Master o js = None
presented_in n (ByLane lane) o js = find (is_presented_in n lane o) js

-- what arrives by event n, or what a lane presents in it
abbrev pub item_of : ℕ → Event → List Journey → Option Journey
item_of n (Act on by o step place) js = presented_in n by o js
item_of n (Arrive lane mark) js = find (comes_in n lane) js

-- it is a completion that left the lane by event n
abbrev pub is_taken_in : ℕ → BridgeLane → Journey → Bool
is_taken_in n lane j = same_lane j.lane lane && (j.left == n && is_done j.carried)

-- the completion that is given at this place in event n: that of the lane back
abbrev pub given_in : ℕ → Place → List Journey → Option Journey
given_in n (Target target) js = None
given_in n (Header bus) js = None
given_in n (Lane lane) js = find (is_taken_in n (lane_back lane)) js
given_in n Nobody js = None

-- the step takes a completion
abbrev pub is_take : Step → Bool
is_take Land = false
is_take (Part phases) = false
is_take (Read value) = false
is_take Accept = false
is_take Latch = false
is_take (Take outcome) = true
is_take Stall = false
is_take MasterAbort = false
is_take TargetAbort = false

-- the completion that is taken in event n
abbrev pub taken_by : ℕ → Event → List Journey → Option Journey
taken_by n (Act on by o step place) js = if is_take step then given_in n place js else None
taken_by n (Arrive lane mark) js = None

-- What did not happen.

-- the oldest posted write or delayed request of the operation that stands where the lane ends; of a master no journey
abbrev pub presented_of : By → OpId → List Journey → Option Journey
presented_of Master o js = None
presented_of (ByLane lane) o js = find (is_there lane (is_of o)) js

-- what an event names: what would arrive next, or what its lane presents
abbrev pub named_by : Event → List Journey → Option Journey
named_by (Act on by o step place) js = presented_of by o js
named_by (Arrive lane mark) js = find (flies lane) js

-- the completion of the operation that stands where it would be taken at this place
abbrev pub completion_at : OpId → Place → List Journey → Option Journey
completion_at o (Target target) js = None
completion_at o (Header bus) js = None
completion_at o (Lane lane) js = find (is_there (lane_back lane) (is_done_of o)) js
completion_at o Nobody js = None

-- Some events alone: those behind a number, up to another.

-- the number is one of theirs
abbrev pub is_among : ℕ → ℕ → ℕ → Bool
is_among before last n = nat_lt before n && nat_le n last

-- it came or left by one of them, or stood before one of them
abbrev pub is_near : ℕ → ℕ → Journey → Bool
is_near before last j =
    is_among before last j.came
    || (is_among before last j.left
    || (has_come last j && (not j.marked && (can_stand j.carried && not (has_left before j)))))

-- of event n these tell what all journeys do
pub record TellsRow (n : ℕ) (all near : List Journey) : Type 0 where
  pub item : (e : Event) → item_of n e near ≡ item_of n e all
  pub taken : (e : Event) → taken_by n e near ≡ taken_by n e all

-- and so of each of them
abbrev pub TellsRows : ℕ → ℕ → List Journey → List Journey → Type 0
TellsRows before last all near = (n : ℕ) → before < n → n ≤ last → TellsRow n all near
