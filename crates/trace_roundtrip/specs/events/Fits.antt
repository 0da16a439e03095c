-- Events whose numbers are as wide as their fields. The buses of lanes and headers are those of bridges of the board.
use Rattle.std.specs.Prelude.{◌^◌, ◌<◌}
use Rattle.pci_command.specs.declared.op_id.Outcome.{Outcome}
use Rattle.pci_command.specs.declared.op_id.Outcome.TheVariants.{Value, Written, Aborted, Nobody as NobodyClaimed}
use Rattle.board_model.specs.declared.bridge.Place.{Place}
use Rattle.board_model.specs.declared.bridge.Place.TheVariants.{Target, Header, Lane, Nobody}
use Rattle.history_model.specs.declared.event.Step.{Step}
use Rattle.history_model.specs.declared.event.Step.TheVariants.{Land, Part, Read, Accept, Latch, Take, Stall, MasterAbort, TargetAbort}
use Rattle.history_model.specs.declared.event.Event.{Event}
use Rattle.history_model.specs.declared.event.Event.TheVariants.{Act, Arrive}

-- a value has 32 bits
abbrev pub OutcomeFits : Outcome → Type 0
OutcomeFits (Value value) = value < 2 ^ 32
OutcomeFits Written = Unit {0}
OutcomeFits Aborted = Unit {0}
OutcomeFits NobodyClaimed = Unit {0}

-- so has what was read or taken
abbrev pub StepFits : Step → Type 0
StepFits Land = Unit {0}
StepFits (Part phases) = Unit {0}
StepFits (Read value) = value < 2 ^ 32
StepFits Accept = Unit {0}
StepFits Latch = Unit {0}
StepFits (Take outcome) = OutcomeFits outcome
StepFits Stall = Unit {0}
StepFits MasterAbort = Unit {0}
StepFits TargetAbort = Unit {0}

-- the place of a target has 16 bits
abbrev pub PlaceFits : Place → Type 0
PlaceFits (Target index) = index < 2 ^ 16
PlaceFits (Header bus) = Unit {0}
PlaceFits (Lane lane) = Unit {0}
PlaceFits Nobody = Unit {0}

-- the master of an operation has 16 bits
abbrev pub EventFits : Event → Type 0
EventFits (Act bus by op step place) = (op.master < 2 ^ 16) × StepFits step × PlaceFits place
EventFits (Arrive lane mark) = Unit {0}
