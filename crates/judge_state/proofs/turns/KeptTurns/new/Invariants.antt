use Rattle.std.proofs.Common.{◌≡◌, ◌<◌, ℕ, [], length, take, Some, slice_get}
use Rattle.std.specs.List.{AllByRecursion}
use Rattle.board_model.specs.declared.agents.Master.{Master}
use Rattle.history_model.specs.Program.{turn_of}
use Rattle.judge_state.proofs.turns.KeptTurns.new.Given as goal

-- the turns of the masters so far; and each of them is on one of 256 buses
abbrev pub invariant-loop-index : goal.invariant-loop-index
invariant-loop-index l = record {
  turns : (master : ℕ) → master < l.index → slice_get l.turns.items master ≡ Some (turn_of l.board [] master);
  so_far : length l.turns.items ≡ l.index;
  buses : AllByRecursion (λ (master : Master). master.bus < 256) (take l.index l.board.masters);
}
