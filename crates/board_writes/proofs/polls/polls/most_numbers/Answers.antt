use Rattle.std.proofs.Common.{◌≡◌, ◌+◌, ◌<◌, length, get_or, sym, ap, subst, ◌∙◌, arith}
use Rattle.board_model.specs.declared.board.Board.{Board}
use Rattle.board_model.proofs.form_laws.Laws.{few_masters}
use Rattle.safe_model.specs.Clocks.{greater}
use Rattle.board_writes.specs.Rows.{raised_at}
use Rattle.board_writes.specs.Looks.{known_to}
use Rattle.board_writes.proofs.StartLemmas.{FilledTo}
use Rattle.board_writes.proofs.KeptLemmas.{number_kept, most_next}
use Rattle.board_writes.proofs.polls.polls.most_numbers.Goals as goal

pub overflow_cast-other : goal.overflow_cast-other
overflow_cast-other c =
    let all : c.as_slice-master-items.result.now ≡ c.args.tree.now.masters = c.as_slice-master-items.ensures ∙ ap (λ (b : Board). b.masters) c.board-board.ensures.value in
    let within : c.loop-other.other < length c.args.tree.now.masters = rw all at c.loop-other-test.true in
    omega (arith, within, few_masters c.args.tree.now c.board-board.ensures.valid)

pub loop-other-preserved : goal.loop-other-preserved
loop-other-preserved c =
    let all : c.as_slice-master-items.result.now ≡ c.args.tree.now.masters = c.as_slice-master-items.ensures ∙ ap (λ (b : Board). b.masters) c.board-board.ensures.value in
    let within : c.loop-other.other < length c.args.tree.now.masters = rw all at c.loop-other-test.true in
    let item : c.master-item.result ≡ get_or c.args.tree.now.masters c.loop-other.other c.master-item.result = rw all at c.master-item.is in
    subst (λ ns. FilledTo (number_kept c.args.tree.now c.args.table.now c.args.op c.args.told c.args.raisers.now) ns (c.loop-other.other + 1)) (sym c.in_ok-push.ensures.items)
    (most_next c.args.tree.now c.args.table.now c.args.op c.args.told c.args.raisers.now c.loop-other.numbers.items c.loop-other.other c.master-item.result c.count_if-most.result c.most_of.result
    within item c.loop-other.invariant c.count_if-most.ensures
    (c.most_of.ensures
    ∙ ap (λ n. greater n (known_to c.args.table.now c.args.raisers.now c.count_if-most.result c.loop-other.other))
    (c.raised-known.ensures ∙ ap (λ k. raised_at k c.args.op c.loop-other.other) (c.number_at.ensures ∙ c.numbers-before.ensures c.loop-other.other))))
