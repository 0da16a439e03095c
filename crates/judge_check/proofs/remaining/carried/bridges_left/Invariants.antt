use Rattle.std.proofs.Common.{◌≡◌, ◌+◌, ◌*◌, ◌≤◌, drop}
use Rattle.list_facts.specs.Lists.{total}
use Rattle.judge_check.specs.remaining.Now.{bridge_now}
use Rattle.judge_check.proofs.remaining.carried.bridges_left.Given as goal

-- what is counted, and what the bridges to come have left, is what all have left
abbrev pub invariant-loop-bridge : goal.invariant-loop-bridge
invariant-loop-bridge l =
    (l.left + total (bridge_now l.board l.kept) (drop l.bridge-index l.board.bridges) ≡ total (bridge_now l.board l.kept) l.board.bridges)
    × (l.left ≤ 20000000 * l.bridge-index)
