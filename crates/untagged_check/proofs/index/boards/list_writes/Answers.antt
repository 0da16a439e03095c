use Rattle.std.proofs.Common.{◌≡◌, ◌<◌, List, length, get_or, ap, subst, ◌∙◌, arith}
use Rattle.board_model.specs.declared.op.Op.{Op}
use Rattle.board_model.specs.declared.agents.Master.{Master}
use Rattle.board_model.specs.declared.board.Board.{Board}
use Rattle.board_tree.proofs.DecodableLemmas.{IsDecodable-valid}
use Rattle.board_model.proofs.form_laws.Laws.{few_masters}
use Rattle.safe_model.specs.Ops.{ops_by, ops_from}
use Rattle.untagged_check.specs.index.Kept.{Lists}
use Rattle.untagged_check.proofs.index.WalkLemmas.{few_at, master_more}
use Rattle.untagged_check.proofs.index.boards.list_writes.Goals as goal

pub overflow_cast-number : goal.overflow_cast-number
overflow_cast-number c =
    let all : c.as_slice-master-items.result.now ≡ c.args.tree.now.masters = c.as_slice-master-items.ensures ∙ ap (λ (b : Board). b.masters) c.board-board.ensures.value in
    let within : c.loop-number.number < length c.args.tree.now.masters = rw all at c.loop-number-test.true in
    omega (arith, within, few_masters c.args.tree.now c.board-board.ensures.valid)

pub list_program-requires-clause-decodable : goal.list_program-requires-clause-decodable
list_program-requires-clause-decodable c = rw c.board-board.ensures.value (IsDecodable-valid c.args.tree.now c.board-board.ensures.valid)

pub list_program-requires-clause-few : goal.list_program-requires-clause-few
list_program-requires-clause-few c =
    let all : c.as_slice-master-items.result.now ≡ c.args.tree.now.masters = c.as_slice-master-items.ensures ∙ ap (λ (b : Board). b.masters) c.board-board.ensures.value in
    let within : c.loop-number.number < length c.args.tree.now.masters = rw all at c.loop-number-test.true in
    let item : c.master-item.result ≡ get_or c.args.tree.now.masters c.loop-number.number c.master-item.result = rw all at c.master-item.is in
    let few = few_at c.args.tree.now c.loop-number.number c.master-item.result c.board-board.ensures.valid within in
    let ops = ap (λ (os : List Op). length os) (c.as_slice-ops.ensures ∙ ap (λ (m : Master). m.ops) item) in
    omega (arith, few, ops)

pub loop-number-preserved : goal.loop-number-preserved
loop-number-preserved c =
    let all : c.as_slice-master-items.result.now ≡ c.args.tree.now.masters = c.as_slice-master-items.ensures ∙ ap (λ (b : Board). b.masters) c.board-board.ensures.value in
    let within : c.loop-number.number < length c.args.tree.now.masters = rw all at c.loop-number-test.true in
    let item : c.master-item.result ≡ get_or c.args.tree.now.masters c.loop-number.number c.master-item.result = rw all at c.master-item.is in
    let ops : c.as_slice-ops.result.now ≡ (get_or c.args.tree.now.masters c.loop-number.number c.master-item.result).ops = c.as_slice-ops.ensures ∙ ap (λ (m : Master). m.ops) item in
    let B : Board → Type 0 = λ b. Lists b c.args.landed.now (ops_from c.loop-number.number 0 c.as_slice-ops.result.now) c.loop-number.writes c.list_program.new.writes in
    let on_board : Lists c.args.tree.now c.args.landed.now (ops_from c.loop-number.number 0 c.as_slice-ops.result.now) c.loop-number.writes c.list_program.new.writes = subst B c.board-board.ensures.value c.in_ok-list_program.ensures in
    let here : Lists c.args.tree.now c.args.landed.now (ops_from c.loop-number.number 0 (get_or c.args.tree.now.masters c.loop-number.number c.master-item.result).ops) c.loop-number.writes c.list_program.new.writes =
    subst (λ (os : List Op). Lists c.args.tree.now c.args.landed.now (ops_from c.loop-number.number 0 os) c.loop-number.writes c.list_program.new.writes) ops on_board in
    master_more c.args.tree.now c.args.landed.now (ops_by 0 c.args.tree.now.masters) c.args.tree.now.masters c.loop-number.number c.master-item.result c.args.writes.now c.loop-number.writes c.list_program.new.writes within c.loop-number.invariant here
