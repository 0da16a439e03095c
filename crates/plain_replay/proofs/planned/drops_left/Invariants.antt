use Rattle.std.proofs.Common.{◌≡◌, ◌+◌, ◌*◌, ◌≤◌, drop}
use Rattle.list_facts.specs.Lists.{total}
use Rattle.history_model.specs.World.{world_of}
use Rattle.history_model.specs.Runs.{history_of}
use Rattle.history_model.specs.Left.{drop_left}
use Rattle.plain_replay.proofs.planned.drops_left.Given as goal

-- the same of the lines to come
abbrev pub invariant-loop-planned : goal.invariant-loop-planned
invariant-loop-planned l =
    (l.left + total (drop_left (world_of l.board (history_of l.events))) (drop l.planned-index l.board.drops)
    ≡ total (drop_left (world_of l.board (history_of l.events))) l.board.drops)
    × (l.left ≤ 3 * l.planned-index)
