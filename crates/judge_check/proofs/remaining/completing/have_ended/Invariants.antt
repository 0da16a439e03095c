use Rattle.std.proofs.Common.{◌≡◌, ℕ, ◌<◌, None, take}
use Rattle.std.specs.List.{AllByRecursion}
use Rattle.board_model.specs.declared.agents.Master.{Master}
use Rattle.judge_state.specs.State.{turn_in}
use Rattle.judge_check.proofs.remaining.completing.have_ended.Given as goal

-- the programs of the masters so far ended; and each of them is on one of 256 buses
abbrev pub invariant-loop-index : goal.invariant-loop-index
invariant-loop-index l =
    ((master : ℕ) → master < l.index → turn_in l.kept.turns master ≡ None)
    × AllByRecursion (λ (master : Master). master.bus < 256) (take l.index l.board.masters)
