use Rattle.std.proofs.Common.{◌≡◌, ◌+◌, ◌*◌, ◌^◌, ◌≤◌, drop}
use Rattle.history_model.specs.Runs.{history_of}
use Rattle.history_model.specs.Left.{stalls_left}
use Rattle.plain_replay.proofs.planned.stalls_left.Given as goal

-- what is counted, and the tokens of the targets to come, are all
abbrev pub invariant-loop-index : goal.invariant-loop-index
invariant-loop-index l =
    (l.left + stalls_left (history_of l.events) l.index (drop l.index l.board.targets)
    ≡ stalls_left (history_of l.events) 0 l.board.targets)
    × (l.left ≤ 2 ^ 32 * l.index)
