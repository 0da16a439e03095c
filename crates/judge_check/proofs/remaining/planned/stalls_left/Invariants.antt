use Rattle.std.proofs.Common.{◌≡◌, ◌+◌, ◌*◌, ◌^◌, ◌≤◌, drop}
use Rattle.judge_check.specs.remaining.Now.{stalls_now}
use Rattle.judge_check.proofs.remaining.planned.stalls_left.Given as goal

-- what is counted, and the tokens of the targets to come, are all
abbrev pub invariant-loop-index : goal.invariant-loop-index
invariant-loop-index l =
    (l.left + stalls_now l.kept l.index (drop l.index l.board.targets) ≡ stalls_now l.kept 0 l.board.targets)
    × (l.left ≤ 2 ^ 32 * l.index)
