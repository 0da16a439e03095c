use Rattle.std.proofs.Common.{◌≡◌, ◌+◌, ◌*◌, ◌≤◌, drop}
use Rattle.list_facts.specs.Lists.{total}
use Rattle.history_model.specs.Runs.{history_of}
use Rattle.history_model.specs.Left.{bridge_left}
use Rattle.plain_replay.proofs.carried.bridges_left.Given as goal

-- the same of the bridges to come
abbrev pub invariant-loop-bridge : goal.invariant-loop-bridge
invariant-loop-bridge l =
    (l.left + total (bridge_left l.board (history_of l.events)) (drop l.bridge-index l.board.bridges)
    ≡ total (bridge_left l.board (history_of l.events)) l.board.bridges)
    × (l.left ≤ 20000000 * l.bridge-index)
