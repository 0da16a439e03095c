-- What the events of a history weigh.
use Rattle.std.specs.Prelude.{ℕ, List}
use Rattle.list_facts.specs.Lists.{total}
use Rattle.board_model.specs.declared.board.Board.{Board}
use Rattle.history_model.specs.declared.event.Event.{Event}
use Rattle.history_model.specs.Local.{bus_of}
use Rattle.run_report.specs.Counts.{kind_of}
use Rattle.run_report.specs.way_counts.WayCounts.{Weight}

-- an event by its bus and kind; an arrival is on the bus where its lane ends
abbrev pub event_weight : Board → Weight → Event → ℕ
event_weight board weight e = weight (bus_of board e) (kind_of e)

-- all events
abbrev pub weigh : Board → Weight → List Event → ℕ
weigh board weight h = total (event_weight board weight) h
