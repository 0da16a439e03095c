-- The bus to which each signal belongs, and each who takes part in an event. The lanes of a bridge belong to the bus below it.
use Rattle.std.specs.Prelude.{ℕ, Option, Some, None, slice_get}
use Rattle.std.specs.Option.{option_map_or}
use Rattle.pci_command.specs.declared.op_id.OpId.{OpId}
use Rattle.board_model.specs.declared.agents.Master.{Master as MasterAgent}
use Rattle.board_model.specs.declared.agents.Target.{Target as TargetAgent}
use Rattle.board_model.specs.declared.bridge.Place.{Place}
use Rattle.board_model.specs.declared.bridge.Place.TheVariants as places
use Rattle.board_model.specs.declared.board.Board.{Board}
use Rattle.history_model.specs.declared.event.By.{By}
use Rattle.history_model.specs.declared.event.By.TheVariants.{Master, Lane as ByLane}
use Rattle.history_model.specs.declared.event.Event.{Event}
use Rattle.history_model.specs.declared.event.Event.TheVariants.{Act, Arrive}
use Rattle.run_waves.specs.declared.signal.Signal.{Signal}
use Rattle.run_waves.specs.declared.signal.Signal.TheVariants.{Bus, Lane, Index, Try, Waits, Stall}

-- of a master, or 0 where there is none
abbrev pub bus_of_master : Board → ℕ → ℕ
bus_of_master board master = option_map_or (λ (agent : MasterAgent). agent.bus) (slice_get board.masters master) 0

-- of a target
abbrev pub bus_of_target : Board → ℕ → ℕ
bus_of_target board target = option_map_or (λ (agent : TargetAgent). agent.bus) (slice_get board.targets target) 0

-- of a signal
abbrev pub home : Board → Signal → ℕ
home board (Bus bus part) = bus
home board (Lane lane count) = lane.bus
home board (Index master) = bus_of_master board master
home board (Try master) = bus_of_master board master
home board (Waits master) = bus_of_master board master
home board (Stall target) = bus_of_target board target

-- of who presents
abbrev pub presenter_bus : Board → By → OpId → ℕ
presenter_bus board Master o = bus_of_master board o.master
presenter_bus board (ByLane lane) o = lane.bus

-- of who claims, where that is a target or a bridge
abbrev pub claimer_bus : Board → Place → Option ℕ
claimer_bus board (places.Target target) = Some (bus_of_target board target)
claimer_bus board (places.Header header) = None
claimer_bus board (places.Lane lane) = Some lane.bus
claimer_bus board places.Nobody = None

-- of who moves in an event: who presents, or the bridge over which something arrives
abbrev pub mover_bus : Board → Event → ℕ
mover_bus board (Act on by o step place) = presenter_bus board by o
mover_bus board (Arrive lane mark) = lane.bus

-- of who claims in it
abbrev pub taker_bus : Board → Event → Option ℕ
taker_bus board (Act on by o step place) = claimer_bus board place
taker_bus board (Arrive lane mark) = None
