use Rattle.std.proofs.Common.{◌≡◌, ◌<◌, List, length, get_or, ap, ◌∙◌, arith}
use Rattle.board_model.specs.declared.op.Op.{Op}
use Rattle.board_model.specs.declared.agents.Master.{Master}
use Rattle.board_model.specs.declared.board.Board.{Board}
use Rattle.board_model.proofs.form_laws.Laws.{few_masters}
use Rattle.board_tree.proofs.DecodableLemmas.{IsDecodable-valid}
use Rattle.board_writes.proofs.WriteLemmas.{few_at}
use Rattle.board_writes.proofs.polls.polls.all_polls.Goals as goal

pub overflow_cast-number : goal.overflow_cast-number
overflow_cast-number c =
    let all : c.as_slice-master-items.result.now ≡ c.args.tree.now.masters = c.as_slice-master-items.ensures ∙ ap (λ (b : Board). b.masters) c.board-board.ensures.value in
    let within : c.loop-number.number < length c.args.tree.now.masters = rw all at c.loop-number-test.true in
    omega (arith, within, few_masters c.args.tree.now c.board-board.ensures.valid)

pub polls_of-requires-clause-decodable : goal.polls_of-requires-clause-decodable
polls_of-requires-clause-decodable c = rw c.board-board.ensures.value (IsDecodable-valid c.args.tree.now c.board-board.ensures.valid)

pub polls_of-requires-clause-few : goal.polls_of-requires-clause-few
polls_of-requires-clause-few c =
    let all : c.as_slice-master-items.result.now ≡ c.args.tree.now.masters = c.as_slice-master-items.ensures ∙ ap (λ (b : Board). b.masters) c.board-board.ensures.value in
    let within : c.loop-number.number < length c.args.tree.now.masters = rw all at c.loop-number-test.true in
    let item : c.master-item.result ≡ get_or c.args.tree.now.masters c.loop-number.number c.master-item.result = rw all at c.master-item.is in
    let few = few_at c.args.tree.now c.loop-number.number c.master-item.result c.board-board.ensures.valid within in
    let ops = ap (λ (os : List Op). length os) (c.as_slice.ensures ∙ ap (λ (m : Master). m.ops) item) in
    omega (arith, few, ops)
