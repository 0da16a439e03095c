use Rattle.std.proofs.Common.{◌≡◌, ◌<◌, None, take}
use Rattle.std.specs.List.{AllByRecursion}
use Rattle.board_model.specs.declared.agents.Master.{Master}
use Rattle.history_model.specs.Program.{turn_of}
use Rattle.history_model.specs.Runs.{history_of}
use Rattle.history_model.specs.Next.{first_below, act_of_turn}
use Rattle.plain_replay.proofs.acts.act_of_masters.Given as goal

-- nothing of the masters so far; and each of them is on one of 256 buses
abbrev pub invariant-loop-index : goal.invariant-loop-index
invariant-loop-index l =
    (first_below l.index (λ master. act_of_turn l.board (history_of l.before) l.bus (turn_of l.board (history_of l.before) master)) ≡ None)
    × AllByRecursion (λ (master : Master). master.bus < 256) (take l.index l.board.masters)
