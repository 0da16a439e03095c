-- How long masters wait.
use Rattle.std.specs.Prelude.{ℕ, ◌+◌, List, [], ◌∷◌, if◌then◌else◌}
use Rattle.pci_command.specs.declared.op_id.OpId.{OpId}
use Rattle.pci_command.specs.Same.{same_op}
use Rattle.history_model.specs.declared.event.By.{By}
use Rattle.history_model.specs.declared.event.By.TheVariants.{Master, Lane as ByLane}
use Rattle.history_model.specs.declared.event.Event.{Event}
use Rattle.history_model.specs.declared.event.Event.TheVariants.{Act, Arrive}
use Rattle.draw_items.specs.declared.waits.Wait.{Wait}

-- the master presents an operation in event n: for the first time, or once more
abbrev pub presented : ℕ → OpId → List Wait → List Wait
presented n o [] = record { op = o; first = n; last = n } ∷ []
presented n o (wait ∷ waits) =
    if same_op wait.op o then record { op = wait.op; first = wait.first; last = n } ∷ waits else wait ∷ presented n o waits

-- a master waits, a lane does not
abbrev pub presented_by : ℕ → By → OpId → List Wait → List Wait
presented_by n Master o waits = presented n o waits
presented_by n (ByLane lane) o waits = waits

-- the same of an event; an arrival is no presenting
abbrev pub waited : ℕ → Event → List Wait → List Wait
waited n (Act on by o step place) waits = presented_by n by o waits
waited n (Arrive lane mark) waits = waits

-- so many events happened, and then these
abbrev pub waits_after : ℕ → List Event → List Wait → List Wait
waits_after n [] waits = waits
waits_after n (e ∷ events) waits = waits_after (n + 1) events (waited (n + 1) e waits)

-- the operations that masters presented, each with the first and the last event in which it was, in the order of the first
unfoldable pub waits_of : List Event → List Wait
waits_of events = waits_after 0 events []
