use Rattle.std.proofs.Common.{◌≡◌, ◌+◌, ◌*◌, ◌≤◌, drop}
use Rattle.list_facts.specs.Lists.{total}
use Rattle.board_model.specs.Ways.{longest_way}
use Rattle.history_model.specs.Left.{discard_left}
use Rattle.judge_check.specs.remaining.Now.{world_now}
use Rattle.judge_check.proofs.remaining.planned.discards_left.Given as goal

-- the same of the lines to come
abbrev pub invariant-loop-planned : goal.invariant-loop-planned
invariant-loop-planned l =
    (l.left + total (discard_left l.board (world_now l.board l.kept)) (drop l.planned-index l.board.discards) ≡ total (discard_left l.board (world_now l.board l.kept)) l.board.discards)
    × (l.left ≤ 1020 * l.planned-index) × (l.longest ≡ longest_way l.board)
