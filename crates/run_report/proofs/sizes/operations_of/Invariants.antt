use Rattle.std.proofs.Common.{◌≡◌, length, take}
use Rattle.list_facts.specs.Lists.{total}
use Rattle.board_model.specs.declared.agents.Master.{Master}
use Rattle.run_report.proofs.sizes.operations_of.Given as goal

-- the operations so far
abbrev pub invariant-loop-master : goal.invariant-loop-master
invariant-loop-master l = l.operations ≡ total (λ (master : Master). length master.ops) (take l.master-index l.board.masters)
