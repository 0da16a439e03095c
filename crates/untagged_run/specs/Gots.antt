-- What an act has its value from, by what is noted down.
use Rattle.std.specs.Prelude.{ℕ, Option, Some, None, if◌then◌else◌}
use Rattle.std.specs.Option.{option_map}
use Rattle.pci_command.specs.declared.op_id.OpId.{OpId}
use Rattle.pci_command.specs.declared.request.Request.{Request}
use Rattle.board_model.specs.declared.board.Board.{Board}
use Rattle.board_model.specs.declared.bridge.Lane.{Lane as BridgeLane}
use Rattle.board_model.specs.declared.bridge.Place.{Place}
use Rattle.board_model.specs.declared.bridge.Place.TheVariants.{Target, Header, Lane, Nobody}
use Rattle.board_model.specs.Requests.{reads, request_of}
use Rattle.history_model.specs.declared.event.By.{By}
use Rattle.history_model.specs.declared.event.By.TheVariants.{Master, Lane as ByLane}
use Rattle.history_model.specs.declared.event.Step.{Step}
use Rattle.history_model.specs.declared.event.Step.TheVariants.{Land, Part, Read, Accept, Latch, Take, Stall, MasterAbort, TargetAbort}
use Rattle.history_model.specs.declared.event.Event.{Event}
use Rattle.history_model.specs.declared.event.Event.TheVariants.{Act, Arrive}
use Rattle.history_model.specs.declared.item.Carried.{Carried}
use Rattle.history_model.specs.declared.item.Carried.TheVariants.{Post, Ask, Done, Room, Gone}
use Rattle.history_model.specs.declared.item.Moved.{Moved}
use Rattle.machine_steps.specs.Words.{word_at}
use Rattle.untagged_run.specs.declared.got.Got.{Got}
use Rattle.untagged_run.specs.declared.origins.Key.{Key}
use Rattle.untagged_run.specs.declared.made.EventMade.{EventMade}
use Rattle.untagged_run.specs.Table.{Table, origin_at, key_of}

-- a read at a target, by the event of that number
abbrev pub read_at : Board → ℕ → ℕ → OpId → Place → Option Got
read_at board event on o (Target target) =
    option_map (λ (request : Request). record { event = event; word = word_at target request }) (request_of board o on)
read_at board event on o (Header bus) = None
read_at board event on o (Lane lane) = None
read_at board event on o Nobody = None

-- the origin of the completion of a slot
abbrev pub slot_origin : Table → BridgeLane → Option ℕ → Option Got
slot_origin table lane None = None
slot_origin table lane (Some number) = origin_at table (key_of lane number)

-- of the completion that is taken at the place, by its slot
abbrev pub taken_at : Table → Place → Option ℕ → Option Got
taken_at table (Target target) slot = None
taken_at table (Header bus) slot = None
taken_at table (Lane lane) slot = slot_origin table lane slot
taken_at table Nobody slot = None

-- what an act has its value from: a reading at a target, or the origin of the completion that is taken
abbrev pub source_now : Board → Table → ℕ → ℕ → OpId → Step → Place → Option ℕ → Option Got
source_now board table event on o Land place slot = None
source_now board table event on o (Part phases) place slot = None
source_now board table event on o (Read value) place slot = read_at board event on o place
source_now board table event on o Accept place slot = None
source_now board table event on o Latch place slot = None
source_now board table event on o (Take outcome) place slot = taken_at table place slot
source_now board table event on o Stall place slot = None
source_now board table event on o MasterAbort place slot = None
source_now board table event on o TargetAbort place slot = None

-- the slot of a delayed request
abbrev pub asked_slot : BridgeLane → Option Carried → Option Key
asked_slot lane None = None
asked_slot lane (Some (Post op)) = None
asked_slot lane (Some (Ask op slot)) = Some (key_of lane slot)
asked_slot lane (Some (Done op slot outcome)) = None
asked_slot lane (Some Room) = None
asked_slot lane (Some (Gone slot)) = None

-- the slot whose delayed request the act answers, by what it ended
abbrev pub answered_now : By → Option Carried → Option Key
answered_now Master item = None
answered_now (ByLane lane) item = asked_slot lane item

-- what the read that the act ends at its master got
abbrev pub given_now : Board → By → OpId → Option Got → Option Got
given_now board Master o source = if reads board o then source else None
given_now board (ByLane lane) o source = None

-- what an event makes of it, by what it found: the slot and its origin, where it answers one, and what a read got that it ends
abbrev pub made_now : Board → Table → ℕ → Event → Moved → EventMade
made_now board table event (Act on by o step place) found =
    let source = source_now board table event on o step place found.slot in
    record { slot = answered_now by found.item; source = source; given = given_now board by o source }
made_now board table event (Arrive lane mark) found = record { slot = None; source = None; given = None }
