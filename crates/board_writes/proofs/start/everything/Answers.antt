use Rattle.std.proofs.Common.{◌≡◌, ◌<◌, List, length, get_or, slice_get, Some, sym, ap, ◌∙◌, arith}
use Rattle.std.proofs.lemmas.Option.{slice_get-get_or}
use Rattle.board_model.specs.declared.op.Op.{Op}
use Rattle.board_model.specs.declared.agents.Master.{Master}
use Rattle.board_writes.proofs.ListLemmas.{few_at}
use Rattle.board_writes.proofs.start.everything.Goals as goal

pub overflow_cast-count : goal.overflow_cast-count
overflow_cast-count c =
    let all : c.as_slice-master-items.result.now ≡ c.args.board.now.masters = c.as_slice-master-items.ensures in
    let within : c.loop-master.master-index < length c.args.board.now.masters = rw all at c.loop-master-test.true in
    let item : c.master-item.result ≡ get_or c.args.board.now.masters c.loop-master.master-index c.master-item.result = rw all at c.master-item.is in
    let there : slice_get c.args.board.now.masters c.loop-master.master-index ≡ Some c.master-item.result =
    slice_get-get_or c.args.board.now.masters c.loop-master.master-index c.master-item.result within ∙ ap (λ (m : Master). Some m) (sym item) in
    let few = few_at c.args.board.now c.loop-master.master-index c.master-item.result c.requires there in
    let ops = ap (λ (os : List Op). length os) c.as_slice-count.ensures in
    omega (arith, few, ops)
