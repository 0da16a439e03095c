use Rattle.std.proofs.Common.{◌≡◌, ◌+◌, ◌*◌, ◌^◌, ◌<◌, ◌≤◌, drop, take}
use Rattle.std.specs.List.{AllByRecursion}
use Rattle.board_model.specs.declared.agents.Master.{Master}
use Rattle.judge_check.specs.remaining.Now.{programs_now}
use Rattle.judge_check.proofs.remaining.programs.programs_left.Given as goal

-- what is counted, and what the programs to come have left, is what all have left; and each master so far is on one of
-- 256 buses, so they are few
abbrev pub invariant-loop-index : goal.invariant-loop-index
invariant-loop-index l =
    (l.left + programs_now l.board l.kept l.index (drop l.index l.board.masters) ≡ programs_now l.board l.kept 0 l.board.masters)
    × (l.left ≤ 2 ^ 50 * l.index) × (l.index ≤ 2049)
    × AllByRecursion (λ (master : Master). master.bus < 256) (take l.index l.board.masters)
