use Rattle.std.proofs.Common.{◌≡◌, ℕ, ◌<◌, List, length, get_or, ap, subst, ◌∙◌, arith}
use Rattle.board_model.specs.declared.op.Op.{Op}
use Rattle.board_model.specs.declared.agents.Master.{Master}
use Rattle.board_model.specs.declared.board.Board.{Board}
use Rattle.board_model.proofs.form_laws.Laws.{few_masters}
use Rattle.safe_model.specs.Ops.{ops_by, ops_from}
use Rattle.board_writes.specs.Rows.{table_of}
use Rattle.safe_said.specs.Members.{Says}
use Rattle.board_writes.proofs.WriteLemmas.{few_at}
use Rattle.safe_said.proofs.LineLemmas.{master_said}
use Rattle.safe_said.proofs.walk.list_masters.Goals as goal

pub overflow_cast-number : goal.overflow_cast-number
overflow_cast-number c =
    let all : c.as_slice-master-items.result.now ≡ c.args.looks.now.tree.now.masters = c.as_slice-master-items.ensures ∙ ap (λ (b : Board). b.masters) c.board-board.ensures.value in
    let within : c.loop-number.number < length c.args.looks.now.tree.now.masters = rw all at c.loop-number-test.true in
    omega (arith, within, few_masters c.args.looks.now.tree.now c.board-board.ensures.valid)

pub list_program-requires-clause-few : goal.list_program-requires-clause-few
list_program-requires-clause-few c =
    let all : c.as_slice-master-items.result.now ≡ c.args.looks.now.tree.now.masters = c.as_slice-master-items.ensures ∙ ap (λ (b : Board). b.masters) c.board-board.ensures.value in
    let within : c.loop-number.number < length c.args.looks.now.tree.now.masters = rw all at c.loop-number-test.true in
    let item : c.master-item.result ≡ get_or c.args.looks.now.tree.now.masters c.loop-number.number c.master-item.result = rw all at c.master-item.is in
    let few = few_at c.args.looks.now.tree.now c.loop-number.number c.master-item.result c.board-board.ensures.valid within in
    let ops = ap (λ (os : List Op). length os) (c.as_slice-ops.ensures ∙ ap (λ (m : Master). m.ops) item) in
    omega (arith, few, ops)

pub loop-number-preserved : goal.loop-number-preserved
loop-number-preserved c =
    let board : Board = c.args.looks.now.tree.now in
    let i : ℕ = c.loop-number.number in
    let all : c.as_slice-master-items.result.now ≡ board.masters = c.as_slice-master-items.ensures ∙ ap (λ (b : Board). b.masters) c.board-board.ensures.value in
    let within : i < length board.masters = rw all at c.loop-number-test.true in
    let item : c.master-item.result ≡ get_or board.masters i c.master-item.result = rw all at c.master-item.is in
    let here : List Op = (get_or board.masters i c.master-item.result).ops in
    let ops : c.as_slice-ops.result.now ≡ here = c.as_slice-ops.ensures ∙ ap (λ (m : Master). m.ops) item in
    let S : List Op → Type 0 = λ os. Says board (table_of c.args.looks.now.table.now) (ops_from i 0 os) c.list_program.new.members c.loop-number.list.items c.list_program.new.list.items in
    master_said board (table_of c.args.looks.now.table.now) (ops_by 0 board.masters) board.masters i c.master-item.result c.loop-number.members c.list_program.new.members c.args.list.now.items c.loop-number.list.items c.list_program.new.list.items
    within c.loop-number.invariant (subst S ops c.in_ok-list_program.ensures)
