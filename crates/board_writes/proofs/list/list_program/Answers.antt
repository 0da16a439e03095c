use Rattle.std.proofs.Common.{◌≡◌, ◌+◌, List, slice_get, Some, sym, ap, subst, ◌∙◌, arith}
use Rattle.std.proofs.lemmas.Option.{slice_get-get_or}
use Rattle.pci_command.specs.declared.op_id.OpId.{OpId}
use Rattle.board_model.specs.declared.op.Op.{Op}
use Rattle.board_writes.specs.Listed.{AddsPolls}
use Rattle.board_writes.proofs.ListLemmas.{adds_poll, adds_other}
use Rattle.board_writes.proofs.list.list_program.Goals as goal
use Rattle.board_writes.proofs.list.list_program.Goals.{then-is_tried+in_ok-push, else-is_tried}

pub loop-place-preserved : goal.loop-place-preserved
loop-place-preserved c =
    let inside = c.loop-place-test.true in
    let op : Op = c.index-program-place.result in
    let at : slice_get c.args.program.now c.loop-place.place ≡ Some op = slice_get-get_or c.args.program.now c.loop-place.place op inside ∙ ap (λ (o : Op). Some o) (sym c.index-program-place.is) in
    let P : List OpId → Type 0 = λ os. AddsPolls c.args.master c.args.program.now (c.loop-place.place + 1) c.args.ops.now.items os in (
      omega (arith, inside),
      elim c.if-is_tried.branch [
        | then-is_tried+in_ok-push w ↦
            subst P (sym (ap (λ v. v.items) w.ops-is ∙ w.in_ok-push.ensures.items))
            (adds_poll c.args.master c.args.program.now c.loop-place.place op c.args.ops.now.items c.loop-place.ops.items at c.loop-place.invariant.1 (sym c.is_tried.ensures ∙ w.if-is_tried.true))
        | else-is_tried w ↦
            subst P (sym (ap (λ v. v.items) w.ops-is))
            (adds_other c.args.master c.args.program.now c.loop-place.place op c.args.ops.now.items c.loop-place.ops.items at c.loop-place.invariant.1 (sym c.is_tried.ensures ∙ w.if-is_tried.false))
      ],
    )
