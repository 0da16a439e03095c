-- Bridges that nothing crossed.
use Rattle.std.specs.Prelude.{ℕ, Bool, false, ◌==◌}
use Rattle.board_model.specs.declared.bridge.Place.{Place}
use Rattle.board_model.specs.declared.bridge.Place.TheVariants.{Target, Header, Lane, Nobody}
use Rattle.history_model.specs.declared.event.Step.{Step}
use Rattle.history_model.specs.declared.event.Step.TheVariants.{Land, Part, Read, Accept, Latch, Take, Stall, MasterAbort, TargetAbort}
use Rattle.history_model.specs.declared.event.Event.{Event}
use Rattle.history_model.specs.declared.event.Event.TheVariants.{Act, Arrive}

-- a lane of the bridge to this bus
abbrev pub is_lane_of : ℕ → Place → Bool
is_lane_of bus (Target target) = false
is_lane_of bus (Header number) = false
is_lane_of bus (Lane lane) = lane.bus == bus
is_lane_of bus Nobody = false

-- a posted write is accepted, or a delayed request latched, at a lane of the bridge to this bus
abbrev pub enters_by : ℕ → Step → Place → Bool
enters_by bus Land place = false
enters_by bus (Part phases) place = false
enters_by bus (Read value) place = false
enters_by bus Accept place = is_lane_of bus place
enters_by bus Latch place = is_lane_of bus place
enters_by bus (Take outcome) place = false
enters_by bus Stall place = false
enters_by bus MasterAbort place = false
enters_by bus TargetAbort place = false

-- an event by which something enters the bridge; an arrival is none
abbrev pub enters_at : ℕ → Event → Bool
enters_at bus (Act on by o step place) = enters_by bus step place
enters_at bus (Arrive lane mark) = false
