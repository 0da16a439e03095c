use Rattle.std.proofs.Common.{drop, ◌↔◌}
use Rattle.std.specs.List.{AllByRecursion}
use Rattle.judge_check.specs.remaining.Now.{IsIdleNow}
use Rattle.judge_check.proofs.remaining.completing.are_idle.Given as goal

-- all are idle where those to come are
abbrev pub invariant-loop-bridge : goal.invariant-loop-bridge
invariant-loop-bridge l =
    AllByRecursion (IsIdleNow l.board l.kept) (drop l.bridge-index l.board.bridges)
    ↔ AllByRecursion (IsIdleNow l.board l.kept) l.board.bridges
