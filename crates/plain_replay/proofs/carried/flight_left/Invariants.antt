use Rattle.std.proofs.Common.{◌≡◌, ◌+◌, ◌*◌, ◌≤◌, drop}
use Rattle.list_facts.specs.Lists.{total}
use Rattle.history_model.specs.Runs.{history_of}
use Rattle.history_model.specs.Left.{flying_left}
use Rattle.plain_replay.proofs.carried.flight_left.Given as goal

-- what is counted, and what the items to come have left, is what all have left
abbrev pub invariant-loop-item : goal.invariant-loop-item
invariant-loop-item l =
    (l.left + total (flying_left l.board (history_of l.events) l.lane) (drop l.item-index l.items)
    ≡ total (flying_left l.board (history_of l.events) l.lane) l.items)
    × (l.left ≤ 70000 * l.item-index)
