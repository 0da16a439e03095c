-- What an event finds on the lanes that are kept.
use Rattle.std.specs.Prelude.{ℕ, List, Option, Some, None}
use Rattle.std.specs.Option.{option_or}
use Rattle.board_model.specs.declared.board.Board.{Board}
use Rattle.history_model.specs.declared.event.Event.{Event}
use Rattle.history_model.specs.declared.event.Event.TheVariants.{Act, Arrive}
use Rattle.history_model.specs.declared.item.Moved.{Moved}
use Rattle.history_model.specs.declared.rule.Rule.{Rule}
use Rattle.history_model.specs.Lanes.{Both}
use Rattle.judge_lanes.specs.Bridge.{found_on}
use Rattle.judge_state.specs.State.{lanes_in, bus_at, bus_by, other_than, happens_on}

-- where there is no bridge nothing is found
abbrev pub nothing : Moved
nothing = record { slot = None; item = None }

-- on what may be the lanes of a bridge
abbrev pub found_at : Rule → Board → Event → ℕ → Option Both → Moved
found_at rule board e bus None = nothing
found_at rule board e bus (Some x) = found_on rule board e bus x

-- on the lanes of the bridge to the bus
abbrev pub found_to : Rule → Board → Event → Option ℕ → List Both → Moved
found_to rule board e None lanes = nothing
found_to rule board e (Some bus) lanes = found_at rule board e bus (lanes_in board lanes bus)

-- by two bridges: the first claims, and what ends is on either
abbrev pub found_by : Moved → Moved → Moved
found_by claimed ended = record { slot = claimed.slot; item = option_or claimed.item ended.item }

-- by the bridges whose lanes the event changes
abbrev pub found_next : Rule → Board → Event → List Both → Moved
found_next rule board (Act on by o step place) lanes =
    let e : Event = Act on by o step place in
    found_by (found_to rule board e (bus_at place) lanes)
    (found_to rule board e (other_than (bus_at place) (bus_by by)) (happens_on rule board e (bus_at place) lanes))
found_next rule board (Arrive lane mark) lanes = found_to rule board (Arrive lane mark) (Some lane.bus) lanes
