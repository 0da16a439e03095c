use Rattle.std.proofs.Common.{◌≡◌, ◌<◌, [], map, take, slice_get}
use Rattle.std.specs.List.{AllByRecursion, filter, range_with_len}
use Rattle.board_model.specs.declared.agents.Master.{Master}
use Rattle.history_model.specs.Answers.{is_on}
use Rattle.bus_agents.specs.Turns.{MasterView, MasterStands}
use Rattle.engine_segments.proofs.agents.masters_on.Given as goal

-- the masters on the bus so far; and each is on one of 256 buses
abbrev pub invariant-loop-place : goal.invariant-loop-place
invariant-loop-place l =
    (map (λ (m : MasterView). m.master) l.masters.items ≡ filter (λ master. is_on l.bus (slice_get l.board.masters master)) (range_with_len 0 l.place))
    × AllByRecursion (MasterStands l.board []) l.masters.items
    × AllByRecursion (λ (master : Master). master.bus < 256) (take l.place l.board.masters)
