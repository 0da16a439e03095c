use Rattle.std.proofs.Common.{◌≡◌, ◌<◌, List, length, get_or, slice_get, Some, sym, ap, subst, ◌∙◌, arith}
use Rattle.std.proofs.lemmas.Option.{slice_get-get_or}
use Rattle.board_model.specs.declared.op.Op.{Op}
use Rattle.board_model.specs.declared.agents.Master.{Master}
use Rattle.board_model.specs.declared.board.Board.{Board}
use Rattle.board_model.proofs.form_laws.Laws.{few_masters}
use Rattle.board_writes.specs.Listed.{AddsPolls}
use Rattle.board_writes.proofs.ListLemmas.{few_at, lists_next}
use Rattle.board_writes.proofs.list.list_all.Goals as goal

pub overflow_cast-number : goal.overflow_cast-number
overflow_cast-number c =
    let all : c.as_slice-master-items.result.now ≡ c.args.tree.now.masters = c.as_slice-master-items.ensures ∙ ap (λ (b : Board). b.masters) c.board-board.ensures.value in
    let within : c.loop-number.number < length c.args.tree.now.masters = rw all at c.loop-number-test.true in
    omega (arith, within, few_masters c.args.tree.now c.board-board.ensures.valid)

pub list_program-requires : goal.list_program-requires
list_program-requires c =
    let all : c.as_slice-master-items.result.now ≡ c.args.tree.now.masters = c.as_slice-master-items.ensures ∙ ap (λ (b : Board). b.masters) c.board-board.ensures.value in
    let within : c.loop-number.number < length c.args.tree.now.masters = rw all at c.loop-number-test.true in
    let item : c.master-item.result ≡ get_or c.args.tree.now.masters c.loop-number.number c.master-item.result = rw all at c.master-item.is in
    let there : slice_get c.args.tree.now.masters c.loop-number.number ≡ Some c.master-item.result =
    slice_get-get_or c.args.tree.now.masters c.loop-number.number c.master-item.result within ∙ ap (λ (m : Master). Some m) (sym item) in
    let few = few_at c.args.tree.now c.loop-number.number c.master-item.result c.board-board.ensures.valid there in
    let ops = ap (λ (os : List Op). length os) c.as_slice-program.ensures in
    omega (arith, few, ops)

pub loop-number-preserved : goal.loop-number-preserved
loop-number-preserved c =
    let all : c.as_slice-master-items.result.now ≡ c.args.tree.now.masters = c.as_slice-master-items.ensures ∙ ap (λ (b : Board). b.masters) c.board-board.ensures.value in
    let within : c.loop-number.number < length c.args.tree.now.masters = rw all at c.loop-number-test.true in
    let item : c.master-item.result ≡ get_or c.args.tree.now.masters c.loop-number.number c.master-item.result = rw all at c.master-item.is in
    let there : slice_get c.args.tree.now.masters c.loop-number.number ≡ Some c.master-item.result =
    slice_get-get_or c.args.tree.now.masters c.loop-number.number c.master-item.result within ∙ ap (λ (m : Master). Some m) (sym item) in
    let ops : c.as_slice-program.result.now ≡ c.master-item.result.ops = c.as_slice-program.ensures in
    lists_next c.args.tree.now c.loop-number.number c.master-item.result c.loop-number.ops.items c.list_program.new.ops.items there c.loop-number.invariant
    (subst (λ (os : List Op). AddsPolls c.loop-number.number os (length os) c.loop-number.ops.items c.list_program.new.ops.items) ops c.in_ok-list_program.ensures)
