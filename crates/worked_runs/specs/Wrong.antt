-- Events that are not allowed.
use Rattle.std.specs.Prelude.{true, false}
use Rattle.pci_command.specs.declared.op_id.Outcome.TheVariants.{Value}
use Rattle.board_model.specs.declared.bridge.Place.TheVariants.{Target, Lane}
use Rattle.history_model.specs.declared.event.By.TheVariants.{Master, Lane as ByLane}
use Rattle.history_model.specs.declared.event.Mark.TheVariants.{Plain, Discard}
use Rattle.history_model.specs.declared.event.Step.TheVariants.{Land, Read, Accept, Take}
use Rattle.history_model.specs.declared.event.Event.{Event}
use Rattle.history_model.specs.declared.event.Event.TheVariants.{Act, Arrive}

-- the read of the word that was written as 2a gives 2b
abbrev pub wrong_value : Event
wrong_value = Act 0 Master (record { master = 0; index = 1; attempt = 0 }) (Read 0x2b) (Target 0)

-- the flag is given while the data is behind a stall
abbrev pub early_completion : Event
early_completion =
    Act 0 (ByLane (record { bus = 2; up = true })) (record { master = 1; index = 0; attempt = 0 }) (Take (Value 1))
    (Lane (record { bus = 1; up = false }))

-- a second write is accepted before the credit of the first came back
abbrev pub second_accept : Event
second_accept = Act 0 Master (record { master = 1; index = 0; attempt = 0 }) Accept (Lane (record { bus = 1; up = false }))

-- the target that takes one data phase at a time takes two
abbrev pub all_at_once : Event
all_at_once = Act 0 Master (record { master = 0; index = 0; attempt = 0 }) Land (Target 0)

-- what goes up from bus 1 arrives with no mark
abbrev pub plain_arrival : Event
plain_arrival = Arrive (record { bus = 1; up = true }) Plain

-- the same arrives marked as discarded
abbrev pub marked_arrival : Event
marked_arrival = Arrive (record { bus = 1; up = true }) Discard
