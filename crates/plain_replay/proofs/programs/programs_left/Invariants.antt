use Rattle.std.proofs.Common.{◌≡◌, ◌+◌, ◌*◌, ◌^◌, ◌<◌, ◌≤◌, drop, take}
use Rattle.std.specs.List.{AllByRecursion}
use Rattle.board_model.specs.declared.agents.Master.{Master}
use Rattle.history_model.specs.Runs.{history_of}
use Rattle.history_model.specs.Left.{programs_left}
use Rattle.plain_replay.proofs.programs.programs_left.Given as goal

-- the same of the programs to come; and each master so far is on one of 256 buses, so they are few
abbrev pub invariant-loop-index : goal.invariant-loop-index
invariant-loop-index l =
    (l.left + programs_left l.board (history_of l.events) l.index (drop l.index l.board.masters)
    ≡ programs_left l.board (history_of l.events) 0 l.board.masters)
    × (l.left ≤ 2 ^ 50 * l.index) × (l.index ≤ 2049)
    × AllByRecursion (λ (master : Master). master.bus < 256) (take l.index l.board.masters)
