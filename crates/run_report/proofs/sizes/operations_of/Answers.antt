use Rattle.std.proofs.Common.{◌≡◌, ◌+◌, ◌<◌, List, get_or, length, ap, subst, arith, ◌∙◌}
use Rattle.board_model.specs.declared.agents.Master.{Master}
use Rattle.run_report.proofs.OperationLemmas.{operations_more, operations_front}
use Rattle.run_report.proofs.sizes.operations_of.Goals as goal

pub overflow_add-operations : goal.overflow_add-operations
overflow_add-operations c =
    let masters : List Master = c.args.board.now.masters in
    let is : c.as_slice-master-items.result.now ≡ masters = c.as_slice-master-items.ensures in
    let within : c.loop-master.master-index < length masters = subst (λ (l : List Master). c.loop-master.master-index < length l) is c.loop-master-test.true in
    let item : length c.as_slice.result.now ≡ length (get_or masters c.loop-master.master-index c.master-item.result).ops =
    ap length c.as_slice.ensures ∙ ap (λ (m : Master). length m.ops) c.master-item.is ∙ ap (λ (l : List Master). length (get_or l c.loop-master.master-index c.master-item.result).ops) is in
    omega (arith, operations_more masters c.loop-master.master-index c.master-item.result within, item, c.loop-master.invariant, operations_front masters (c.loop-master.master-index + 1), c.requires)

pub loop-master-preserved : goal.loop-master-preserved
loop-master-preserved c =
    let masters : List Master = c.args.board.now.masters in
    let is : c.as_slice-master-items.result.now ≡ masters = c.as_slice-master-items.ensures in
    let within : c.loop-master.master-index < length masters = subst (λ (l : List Master). c.loop-master.master-index < length l) is c.loop-master-test.true in
    let item : length c.as_slice.result.now ≡ length (get_or masters c.loop-master.master-index c.master-item.result).ops =
    ap length c.as_slice.ensures ∙ ap (λ (m : Master). length m.ops) c.master-item.is ∙ ap (λ (l : List Master). length (get_or l c.loop-master.master-index c.master-item.result).ops) is in
    omega (arith, operations_more masters c.loop-master.master-index c.master-item.result within, item, c.loop-master.invariant)
