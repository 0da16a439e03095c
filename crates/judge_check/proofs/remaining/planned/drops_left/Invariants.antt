use Rattle.std.proofs.Common.{◌≡◌, ◌+◌, ◌*◌, ◌≤◌, drop}
use Rattle.list_facts.specs.Lists.{total}
use Rattle.history_model.specs.Left.{drop_left}
use Rattle.judge_check.specs.remaining.Now.{world_now}
use Rattle.judge_check.proofs.remaining.planned.drops_left.Given as goal

-- the same of the lines to come
abbrev pub invariant-loop-planned : goal.invariant-loop-planned
invariant-loop-planned l =
    (l.left + total (drop_left (world_now l.board l.kept)) (drop l.planned-index l.board.drops) ≡ total (drop_left (world_now l.board l.kept)) l.board.drops)
    × (l.left ≤ 3 * l.planned-index)
