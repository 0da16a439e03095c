-- The tries of polls.
use Rattle.std.specs.Prelude.{Bool, false, ◌&&◌, ◌==◌, nat_lt, List}
use Rattle.std.specs.List.{list_any}
use Rattle.pci_command.specs.declared.op_id.OpId.{OpId}
use Rattle.history_model.specs.declared.event.Event.{Event}
use Rattle.history_model.specs.declared.event.Event.TheVariants.{Act, Arrive}

-- the second is a later try of the same poll
abbrev pub is_later_try : OpId → OpId → Bool
is_later_try o p = p.master == o.master && (p.index == o.index && nat_lt o.attempt p.attempt)

-- an event names a later try of the same poll
abbrev pub names_later_try : OpId → Event → Bool
names_later_try o (Act on by p step place) = is_later_try o p
names_later_try o (Arrive lane mark) = false

-- the operation is a try of a poll, of which an event of the trace names a later one: it was fruitless
abbrev pub is_pale : List Event → OpId → Bool
is_pale events o = list_any (names_later_try o) events
