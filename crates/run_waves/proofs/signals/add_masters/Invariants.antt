use Rattle.std.proofs.Common.{◌≡◌, ◌<◌, ◌++◌, take, slice_get}
use Rattle.std.specs.List.{AllByRecursion, filter, flat_map, range_with_len}
use Rattle.board_model.specs.declared.agents.Master.{Master}
use Rattle.history_model.specs.Answers.{is_on}
use Rattle.run_waves.specs.Signals.{progress}
use Rattle.run_waves.proofs.signals.add_masters.Given as goal

-- the signals of the masters so far; each of them is on one of 256 buses, so they are few
abbrev pub invariant-loop-master : goal.invariant-loop-master
invariant-loop-master l =
    record {
      buses : AllByRecursion (λ (agent : Master). agent.bus < 256) (take l.master l.board.masters);
      so_far : l.signals.items ≡ l.initial.signals.items ++ flat_map progress (filter (λ master. is_on l.bus (slice_get l.board.masters master)) (range_with_len 0 l.master));
    }
