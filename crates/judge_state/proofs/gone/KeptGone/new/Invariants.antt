use Rattle.std.proofs.Common.{◌≡◌, take}
use Rattle.std.specs.Prelude.{map}
use Rattle.board_model.specs.declared.agents.Master.{Master}
use Rattle.machine_steps.specs.Counts.{none_of_any}
use Rattle.judge_state.proofs.gone.KeptGone.new.Given as goal

-- the counts of the masters so far
abbrev pub invariant-loop-master : goal.invariant-loop-master
invariant-loop-master l = l.gone.items ≡ map (λ (master : Master). none_of_any master.ops) (take l.master-index l.board.masters)
