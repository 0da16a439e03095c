use Rattle.std.proofs.Common.{◌≡◌, ◌+◌, drop}
use Rattle.list_facts.specs.Lists.{total}
use Rattle.board_model.specs.declared.agents.Master.{Master}
use Rattle.board_model.specs.Ways.{cost_of}
use Rattle.board_tree.proofs.bound.cost_of_programs.Given as goal

-- the costs so far and those of the masters to come are all costs
abbrev pub invariant-loop-master : goal.invariant-loop-master
invariant-loop-master l =
    l.costs + total (λ (master : Master). total (cost_of l.board master.bus) master.ops) (drop l.master-index l.masters)
    ≡ total (λ (master : Master). total (cost_of l.board master.bus) master.ops) l.masters
