use Rattle.std.proofs.Common.{◌≡◌, ℕ, ◌<◌, ◌+◌, List, drop, length, get_or, ap, subst, ◌∙◌, arith}
use Rattle.board_model.specs.declared.op.Op.{Op}
use Rattle.board_model.specs.declared.agents.Master.{Master}
use Rattle.board_model.specs.declared.board.Board.{Board}
use Rattle.board_model.proofs.form_laws.Laws.{few_masters}
use Rattle.board_tree.proofs.DecodableLemmas.{IsDecodable-valid}
use Rattle.safe_model.specs.Ops.{ops_by, ops_from}
use Rattle.audit_clocks.specs.Tables.{dword}
use Rattle.board_writes.specs.Writes.{kept_by, Adds}
use Rattle.board_writes.proofs.WriteLemmas.{few_at, some_more, master_parts}
use Rattle.board_writes.proofs.writers.list.list_writes.Goals as goal

pub overflow_cast-number : goal.overflow_cast-number
overflow_cast-number c =
    let all : c.as_slice-master-items.result.now ≡ c.args.tree.now.masters = c.as_slice-master-items.ensures ∙ ap (λ (b : Board). b.masters) c.board-board.ensures.value in
    let within : c.loop-number.number < length c.args.tree.now.masters = rw all at c.loop-number-test.true in
    omega (arith, within, few_masters c.args.tree.now c.board-board.ensures.valid)

pub list_program-requires-clause-decodable : goal.list_program-requires-clause-decodable
list_program-requires-clause-decodable c = rw c.board-board.ensures.value (IsDecodable-valid c.args.tree.now c.board-board.ensures.valid)

pub list_program-requires-clause-few : goal.list_program-requires-clause-few
list_program-requires-clause-few c =
    let all : c.as_slice-master-items.result.now ≡ c.args.tree.now.masters = c.as_slice-master-items.ensures ∙ ap (λ (b : Board). b.masters) c.board-board.ensures.value in
    let within : c.loop-number.number < length c.args.tree.now.masters = rw all at c.loop-number-test.true in
    let item : c.master-item.result ≡ get_or c.args.tree.now.masters c.loop-number.number c.master-item.result = rw all at c.master-item.is in
    let few = few_at c.args.tree.now c.loop-number.number c.master-item.result c.board-board.ensures.valid within in
    let ops = ap (λ (os : List Op). length os) (c.as_slice.ensures ∙ ap (λ (m : Master). m.ops) item) in
    omega (arith, few, ops)

pub loop-number-preserved : goal.loop-number-preserved
loop-number-preserved c =
    let board : Board = c.args.tree.now in
    let i : ℕ = c.loop-number.number in
    let all : c.as_slice-master-items.result.now ≡ board.masters = c.as_slice-master-items.ensures ∙ ap (λ (b : Board). b.masters) c.board-board.ensures.value in
    let within : i < length board.masters = rw all at c.loop-number-test.true in
    let item : c.master-item.result ≡ get_or board.masters i c.master-item.result = rw all at c.master-item.is in
    let here : List Op = (get_or board.masters i c.master-item.result).ops in
    let ops : c.as_slice.result.now ≡ here = c.as_slice.ensures ∙ ap (λ (m : Master). m.ops) item in
    let B : Board → Type 0 = λ b. Adds (λ q. kept_by b (dword q) (ops_from i 0 c.as_slice.result.now)) c.loop-number.writers c.list_program.new.writers in
    let on_board : Adds (λ q. kept_by board (dword q) (ops_from i 0 c.as_slice.result.now)) c.loop-number.writers c.list_program.new.writers = subst B c.board-board.ensures.value c.in_ok-list_program.ensures in
    let adds : Adds (λ q. kept_by board (dword q) (ops_from i 0 here)) c.loop-number.writers c.list_program.new.writers =
    subst (λ (os : List Op). Adds (λ q. kept_by board (dword q) (ops_from i 0 os)) c.loop-number.writers c.list_program.new.writers) ops on_board in
    some_more (λ q. kept_by board (dword q) (ops_by 0 board.masters)) (λ q. kept_by board (dword q) (ops_by i (drop i board.masters)))
    (λ q. kept_by board (dword q) (ops_from i 0 here)) (λ q. kept_by board (dword q) (ops_by (i + 1) (drop (i + 1) board.masters)))
    c.args.writers.now c.loop-number.writers c.list_program.new.writers (λ q. master_parts board board.masters i c.master-item.result q within) c.loop-number.invariant adds
