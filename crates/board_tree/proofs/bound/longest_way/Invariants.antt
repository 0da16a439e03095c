use Rattle.std.proofs.Common.{◌≡◌, max, length, drop}
use Rattle.list_facts.specs.Lists.{greatest}
use Rattle.board_model.specs.declared.agents.Master.{Master}
use Rattle.board_model.specs.Ways.{way}
use Rattle.board_tree.proofs.bound.longest_way.Given as goal

-- the same of the programs
abbrev pub invariant-loop-master : goal.invariant-loop-master
invariant-loop-master l =
    max l.longest (greatest (λ (master : Master). greatest (λ op. length (way l.board op master.bus)) master.ops) (drop l.master-index l.masters))
    ≡ greatest (λ (master : Master). greatest (λ op. length (way l.board op master.bus)) master.ops) l.masters
