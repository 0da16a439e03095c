-- Which signals may show something else than a moment before: those of the buses on which something happens or happened
-- then, of the lanes that the event goes over, of the master that presents it and of the target that claims it.
use Rattle.std.specs.Prelude.{ℕ, Bool, false, ◌||◌, ◌==◌, Option}
use Rattle.std.specs.Option.{option_map, option_map_or, option_and_then}
use Rattle.pci_command.specs.declared.op_id.OpId.{OpId}
use Rattle.board_model.specs.declared.bridge.Place.{Place}
use Rattle.board_model.specs.declared.bridge.Place.TheVariants as places
use Rattle.board_model.specs.declared.board.Board.{Board}
use Rattle.history_model.specs.declared.event.By.{By}
use Rattle.history_model.specs.declared.event.By.TheVariants.{Master, Lane as ByLane}
use Rattle.history_model.specs.declared.event.Event.{Event}
use Rattle.history_model.specs.declared.event.Event.TheVariants.{Act, Arrive}
use Rattle.history_model.specs.Local.{bus_of}
use Rattle.run_waves.specs.declared.scene.Scene.{Scene}
use Rattle.run_waves.specs.declared.signal.Signal.{Signal}
use Rattle.run_waves.specs.declared.signal.Signal.TheVariants.{Bus, Lane, Index, Try, Waits, Stall}
use Rattle.run_waves.specs.declared.touched.Touch.{Touch}
use Rattle.run_waves.specs.Homes.{mover_bus, taker_bus}

-- a lane of the bridge to the bus presents, or claims
abbrev pub presents_over : By → ℕ → Bool
presents_over Master bus = false
presents_over (ByLane lane) bus = lane.bus == bus

-- a lane of the bridge to the bus claims
abbrev pub claims_over : Place → ℕ → Bool
claims_over (places.Target target) bus = false
claims_over (places.Header header) bus = false
claims_over (places.Lane lane) bus = lane.bus == bus
claims_over places.Nobody bus = false

-- an event moves what is on the lanes of the bridge to the bus
abbrev pub moves_lanes : ℕ → Event → Bool
moves_lanes bus (Act on by o step place) = presents_over by bus || claims_over place bus
moves_lanes bus (Arrive lane mark) = lane.bus == bus

-- the master presents
abbrev pub presents_as : By → OpId → ℕ → Bool
presents_as Master o master = o.master == master
presents_as (ByLane lane) o master = false

-- an event is one of the master's
abbrev pub moves_master : ℕ → Event → Bool
moves_master master (Act on by o step place) = presents_as by o master
moves_master master (Arrive lane mark) = false

-- the target claims
abbrev pub claims_at : Place → ℕ → Bool
claims_at (places.Target place) target = place == target
claims_at (places.Header header) target = false
claims_at (places.Lane lane) target = false
claims_at places.Nobody target = false

-- an event is claimed by the target
abbrev pub moves_target : ℕ → Event → Bool
moves_target target (Act on by o step place) = claims_at place target
moves_target target (Arrive lane mark) = false

-- a number is this one
abbrev pub is_at : ℕ → Option ℕ → Bool
is_at bus found = option_map_or (λ (other : ℕ). other == bus) found false

-- the event, where one happens, does so
abbrev pub happens_so : (Event → Bool) → Option Event → Bool
happens_so test event = option_map_or test event false

-- whether the signal may show something else than a moment before
abbrev pub may_change : Touch → Signal → Bool
may_change touch (Bus bus part) = is_at bus touch.from || is_at bus touch.to
may_change touch (Lane lane count) = happens_so (moves_lanes lane.bus) touch.event
may_change touch (Index master) = happens_so (moves_master master) touch.event
may_change touch (Try master) = happens_so (moves_master master) touch.event
may_change touch (Waits master) = happens_so (moves_master master) touch.event
may_change touch (Stall target) = happens_so (moves_target target) touch.event

-- what the scene of a moment touches, and the one of the moment before
abbrev pub touch_of : Board → Option Scene → Option Scene → Touch
touch_of board from to =
    record {
      from = option_map (λ (scene : Scene). bus_of board scene.event) from;
      to = option_map (λ (scene : Scene). bus_of board scene.event) to;
      event = option_map (λ (scene : Scene). scene.event) to;
      mover = option_map (λ (scene : Scene). mover_bus board scene.event) to;
      taker = option_and_then (λ (scene : Scene). taker_bus board scene.event) to;
    }
