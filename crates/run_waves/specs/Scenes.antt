-- What the program keeps of a moment: the event that happens with what arrives by it, and what each signal reads.
use Rattle.std.specs.Prelude.{◌≡◌, ◌<◌, ◌≤◌, ℕ, Bool, false, not, List, [], ◌∷◌, length, Option, Some, None, ◌==◌, if◌then◌else◌, slice_get}
use Rattle.pci_command.specs.declared.op_id.OpId.{OpId}
use Rattle.board_model.specs.declared.board.Board.{Board}
use Rattle.history_model.specs.declared.event.By.{By}
use Rattle.history_model.specs.declared.event.By.TheVariants.{Master, Lane as ByLane}
use Rattle.history_model.specs.declared.event.Event.{Event}
use Rattle.history_model.specs.declared.event.Event.TheVariants.{Act, Arrive}
use Rattle.history_model.specs.declared.item.Carried.{Carried}
use Rattle.history_model.specs.declared.item.Moved.{Moved}
use Rattle.history_model.specs.Local.{bus_of}
use Rattle.history_model.specs.Program.{turn_of}
use Rattle.board_printer.specs.Lines.{Line}
use Rattle.history_model.specs.Answers.{is_turn}
use Rattle.judge_state.specs.State.{KeptState, turn_in}
use Rattle.judge_state.specs.Stands.{StandsFor}
use Rattle.std.proofs.Math.ListN.{set}
use Rattle.run_waves.specs.declared.signal.BusPart.{BusPart}
use Rattle.run_waves.specs.declared.signal.Signal.{Signal}
use Rattle.run_waves.specs.declared.signal.Signal.TheVariants.{Bus, Lane, Index, Try, Waits, Stall}
use Rattle.run_waves.specs.declared.scene.Scene.{Scene}
use Rattle.run_waves.specs.declared.reading.SignalReading.{SignalReading}
use Rattle.run_waves.specs.declared.reading.SignalReading.TheVariants as readings
use Rattle.run_waves.specs.Shown.{Moment, past, Shown, Level, Number, Nothing, idle_part, event_part, item_by, waits, shown}
use Rattle.run_waves.specs.Dump.{value_line, same_shown}

-- what is shown of a scene
abbrev pub scene_part : Board → BusPart → Scene → Shown
scene_part board part scene = event_part board part scene.event scene.item

-- what arrives by an event that found this
abbrev pub came_in : Event → Moved → Option Carried
came_in (Act on by o step place) found = None
came_in (Arrive lane mark) found = found.item

-- the scene of an event after these, where one happens
abbrev pub scene_at : Board → List Event → Option Event → Option Scene
scene_at board before None = None
scene_at board before (Some e) = Some (record { event = e; item = item_by board before e })

-- the scene of a moment
abbrev pub scene_of : Board → Moment → Option Scene
scene_of board m = scene_at board m.before m.event

-- whether it is on the bus
abbrev pub is_scene_on : Board → ℕ → Option Scene → Bool
is_scene_on board bus None = false
is_scene_on board bus (Some scene) = bus_of board scene.event == bus

-- what is shown of a bus, by the scene
abbrev pub shown_by : Board → ℕ → BusPart → Option Scene → Shown
shown_by board bus part None = idle_part part
shown_by board bus part (Some scene) = scene_part board part scene

-- what a part of a bus shows: idle, where the scene is on another
abbrev pub shown_on : Board → ℕ → BusPart → Option Scene → Shown
shown_on board bus part scene = if is_scene_on board bus scene then shown_by board bus part scene else idle_part part

-- a signal that shows something else than before
abbrev pub new_line : ℕ → Shown → Shown → List Line
new_line k old new = if not (same_shown old new) then value_line k new ∷ [] else []

-- a signal of a bus, between two scenes
abbrev pub bus_change : Board → ℕ → ℕ → BusPart → Option Scene → Option Scene → List Line
bus_change board k bus part from to =
    if is_scene_on board bus to then value_line k (shown_on board bus part to) ∷ [] else new_line k (shown_on board bus part from) (idle_part part)

-- what a signal reads, as it is shown
abbrev pub shown_of : SignalReading → Shown
shown_of (readings.Level up) = Level up
shown_of (readings.Number n) = Number n

-- a value, where there is one
abbrev pub value_in : Option ℕ → Shown
value_in None = Nothing
value_in (Some value) = Number value

-- a signal of a lane, a master or a target reads what it shows; what a bus shows is in the scene
abbrev pub Reads : Board → Moment → Signal → SignalReading → Type 0
Reads board m (Bus bus part) reading = Unit {0}
Reads board m (Lane lane count) reading = shown_of reading ≡ shown board m (Lane lane count)
Reads board m (Index master) reading = shown_of reading ≡ shown board m (Index master)
Reads board m (Try master) reading = shown_of reading ≡ shown board m (Try master)
Reads board m (Waits master) reading = shown_of reading ≡ shown board m (Waits master)
Reads board m (Stall target) reading = shown_of reading ≡ shown board m (Stall target)

-- so do these signals from this place on
abbrev pub ReadsFrom : Board → Moment → List Signal → List SignalReading → ℕ → Type 0
ReadsFrom board m signals shown place =
    (k : ℕ) (signal : Signal) (reading : SignalReading) → place ≤ k → slice_get signals k ≡ Some signal → slice_get shown k ≡ Some reading → Reads board m signal reading

-- and those before it
abbrev pub ReadsBelow : Board → Moment → List Signal → List SignalReading → ℕ → Type 0
ReadsBelow board m signals shown place =
    (k : ℕ) (signal : Signal) (reading : SignalReading) → k < place → slice_get signals k ≡ Some signal → slice_get shown k ≡ Some reading → Reads board m signal reading

-- after an event: a master that presented its turn waits, unless that ended, where these are the turns then
abbrev pub waits_by : List (Option OpId) → By → OpId → List Bool → List Bool
waits_by turns Master o waits = set waits o.master (is_turn o (turn_in turns o.master))
waits_by turns (ByLane lane) o waits = waits

-- who waits after an event
abbrev pub waits_next : List (Option OpId) → Event → List Bool → List Bool
waits_next turns (Act on by o step place) waits = waits_by turns by o waits
waits_next turns (Arrive lane mark) waits = waits

-- one moment is the next behind another
abbrev pub Follows : Moment → Moment → Type 0
Follows before after = after.before ≡ past before

-- what is kept at a moment: the state of the run, for each master whether it waits, and the scene
pub record IsAt (board : Board) (m : Moment) (kept : KeptState) (waiting : List Bool) (scene : Option Scene) : Type 0 where
  pub stands : StandsFor board (past m) kept
  pub masters : length waiting ≡ length board.masters
  pub waiting_is : (master : ℕ) → master < length board.masters → slice_get waiting master ≡ Some (waits (past m) (turn_of board (past m) master))
  pub scene_is : scene ≡ scene_of board m
