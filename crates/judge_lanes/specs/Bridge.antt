-- An event changes the two lanes of one bridge by what is on them alone.
use Rattle.std.specs.Prelude.{ℕ, Bool, true, false, Option, Some, None, ◌==◌, if◌then◌else◌}
use Rattle.pci_command.specs.declared.op_id.OpId.{OpId}
use Rattle.pci_command.specs.declared.op_id.Outcome.{Outcome}
use Rattle.board_model.specs.declared.bridge.Lane.{Lane as BridgeLane}
use Rattle.board_model.specs.declared.bridge.Place.{Place}
use Rattle.board_model.specs.declared.bridge.Place.TheVariants.{Target, Header, Lane, Nobody}
use Rattle.board_model.specs.declared.board.Board.{Board}
use Rattle.history_model.specs.declared.event.By.{By}
use Rattle.history_model.specs.declared.event.By.TheVariants.{Master, Lane as ByLane}
use Rattle.history_model.specs.declared.event.Step.{Step}
use Rattle.history_model.specs.declared.event.Event.{Event}
use Rattle.history_model.specs.declared.event.Event.TheVariants.{Act, Arrive}
use Rattle.history_model.specs.declared.item.Carried.{Carried}
use Rattle.history_model.specs.declared.item.Moved.{Moved}
use Rattle.history_model.specs.Lanes.{Both, item_ends, arrives}
use Rattle.history_model.specs.declared.rule.Rule.{Rule}
use Rattle.history_model.specs.World.{World, both, noted, enters, lane_outcome}
use Rattle.history_model.specs.Moves.{slot_moved, item_moved, oldest}

-- the lanes of the bridge to a bus: that down to it, and that back up
abbrev pub lanes_of : World → ℕ → Both
lanes_of world bus = both world (record { bus = bus; up = false })

-- the lanes of a bridge, that of the given direction first
abbrev pub turned : Bool → Both → Both
turned false x = x
turned true x = record { here = x.back; back = x.here }

-- a move of a lane changes the lanes of its bridge and of no other
abbrev pub moved_on : (Both → Both) → BridgeLane → ℕ → Both → Both
moved_on move lane bus x = if lane.bus == bus then turned lane.up (move (turned lane.up x)) else x

-- what the claim of an act does to the lanes of the bridge to the bus
abbrev pub place_on : Board → ℕ → By → OpId → Step → Place → ℕ → Both → Both
place_on board on by o step (Target target) bus x = x
place_on board on by o step (Header number) bus x = x
place_on board on by o step (Lane lane) bus x = moved_on (enters board on by o step) lane bus x
place_on board on by o step Nobody bus x = x

-- what the end of an item does to them
abbrev pub leaves_on : BridgeLane → OpId → Option Outcome → ℕ → Both → Both
leaves_on lane o None bus x = x
leaves_on lane o (Some outcome) bus x = moved_on (item_ends o outcome) lane bus x

-- what the act does to them at its initiator
abbrev pub initiator_on : Board → By → OpId → Step → ℕ → Both → Both
initiator_on board Master o step bus x = x
initiator_on board (ByLane lane) o step bus x = leaves_on lane o (lane_outcome board lane o step) bus x

-- under a rule: the lanes of the bridge to the bus after one more event
abbrev pub lanes_after : Rule → Board → Event → ℕ → Both → Both
lanes_after rule board (Act on by o step place) bus x = initiator_on board by o step bus (place_on board on (noted rule by) o step place bus x)
lanes_after rule board (Arrive lane mark) bus x = moved_on (arrives mark) lane bus x

-- the slot that a step takes, or that is held from now on, where a lane of the bridge to the bus claims it
abbrev pub slot_on : Board → ℕ → By → OpId → Step → Place → ℕ → Both → Option ℕ
slot_on board on by o step (Target target) bus x = None
slot_on board on by o step (Header number) bus x = None
slot_on board on by o step (Lane lane) bus x = if lane.bus == bus then slot_moved board on by o step (turned lane.up x).here.held else None
slot_on board on by o step Nobody bus x = None

-- what ends on a lane of that bridge
abbrev pub item_on : Board → By → OpId → Step → ℕ → Both → Option Carried
item_on board Master o step bus x = None
item_on board (ByLane lane) o step bus x = if lane.bus == bus then item_moved o (lane_outcome board lane o step) (turned lane.up x).here.standing else None

-- under a rule: what an event finds on the lanes of the bridge to the bus
abbrev pub found_on : Rule → Board → Event → ℕ → Both → Moved
found_on rule board (Act on by o step place) bus x =
    record { slot = slot_on board on (noted rule by) o step place bus x; item = item_on board by o step bus x }
found_on rule board (Arrive lane mark) bus x =
    record { slot = None; item = if lane.bus == bus then oldest (turned lane.up x).here.flight else None }
