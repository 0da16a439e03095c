use Rattle.std.proofs.Common.{◌≡◌, ◌<◌, take}
use Rattle.std.specs.List.{AllByRecursion}
use Rattle.board_model.specs.declared.agents.Master.{Master}
use Rattle.judge_next.specs.Lines.{masters_below}
use Rattle.judge_next.proofs.lines.masters_on.Given as goal

-- the masters on the bus so far; and each is on one of 256 buses
abbrev pub invariant-loop-index : goal.invariant-loop-index
invariant-loop-index l =
    (l.masters.items ≡ masters_below l.index l.board l.bus)
    × AllByRecursion (λ (master : Master). master.bus < 256) (take l.index l.board.masters)
