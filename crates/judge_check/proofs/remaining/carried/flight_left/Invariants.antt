use Rattle.std.proofs.Common.{◌≡◌, ◌+◌, ◌*◌, ◌≤◌, drop}
use Rattle.list_facts.specs.Lists.{total}
use Rattle.judge_check.specs.remaining.Now.{flying_now}
use Rattle.judge_check.proofs.remaining.carried.flight_left.Given as goal

-- what is counted, and what the items to come have left, is what all have left
abbrev pub invariant-loop-item : goal.invariant-loop-item
invariant-loop-item l =
    (l.left + total (flying_now l.board l.kept l.lane) (drop l.item-index l.items) ≡ total (flying_now l.board l.kept l.lane) l.items)
    × (l.left ≤ 70000 * l.item-index)
