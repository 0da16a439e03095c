use Rattle.std.proofs.Common.{drop, ◌↔◌}
use Rattle.std.specs.List.{AllByRecursion}
use Rattle.history_model.specs.Runs.{history_of}
use Rattle.plain_replay.proofs.IdleLemmas.{IsIdleAt}
use Rattle.plain_replay.proofs.completing.are_idle.Given as goal

-- all are idle where those to come are
abbrev pub invariant-loop-bridge : goal.invariant-loop-bridge
invariant-loop-bridge l =
    AllByRecursion (IsIdleAt l.board (history_of l.events)) (drop l.bridge-index l.board.bridges)
    ↔ AllByRecursion (IsIdleAt l.board (history_of l.events)) l.board.bridges
