use Rattle.std.proofs.Common.{length}
use Rattle.list_facts.specs.Lists.{greatest}
use Rattle.board_model.specs.declared.agents.Master.{Master}
use Rattle.board_model.specs.Ways.{way}
use Rattle.board_tree.proofs.GreatestLemmas.{greatest_step}
use Rattle.board_tree.proofs.bound.longest_way.Goals as goal

pub loop-master-preserved : goal.loop-master-preserved
loop-master-preserved c =
    greatest_step (λ (master : Master). greatest (λ op. length (way c.args.board.now op master.bus)) master.ops) c.args.masters.now
    c.loop-master.master-index c.master-item.result c.loop-master.longest c.longest_way_of.result _ _
    c.loop-master-test.true c.master-item.is (rw c.as_slice.ensures at c.longest_way_of.ensures) c.max-longest.ensures c.loop-master.invariant
