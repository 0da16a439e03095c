use Rattle.std.proofs.Common.{◌≡◌, List, None, map, sym, ap, subst, ◌∙◌}
use Rattle.std.specs.List.{find}
use Rattle.board_model.specs.declared.board.Board.{Board}
use Rattle.safe_model.specs.Clocks.{Table}
use Rattle.safe_model.specs.said.Said.{is_open, in_order}
use Rattle.board_writes.specs.declared.writers.write.WordWrite.{WordWrite}
use Rattle.board_writes.specs.Rows.{table_of}
use Rattle.board_writes.specs.Writes.{op_in}
use Rattle.board_writes.specs.Stretches.{joined}
use Rattle.safe_said.specs.Landing.{AreChained}
use Rattle.safe_said.proofs.ChainLemmas.{sorted_none_open}
use Rattle.safe_said.proofs.reads.open_among.Goals as goal

pub open_unless-requires-clause-runs : goal.open_unless-requires-clause-runs
open_unless-requires-clause-runs c =
    let board : Board = c.args.looks.now.tree.now in
    let table : Table = table_of c.args.looks.now.table.now in
    let runs = rw c.board-board.ensures.value at c.in_ok-runs.ensures in
    subst (AreChained board table) (sym c.as_slice-3.ensures.value) runs.each

pub open_unless-requires-clause-none : goal.open_unless-requires-clause-none
open_unless-requires-clause-none c = λ is.
    let board : Board = c.args.looks.now.tree.now in
    let table : Table = table_of c.args.looks.now.table.now in
    let all : joined c.as_slice.result.now ≡ c.args.writes.now = ap joined c.as_slice.ensures.value ∙ c.in_ok-runs.ensures.all in
    let again : joined c.as_slice-3.result.now ≡ c.args.writes.now = ap joined c.as_slice-3.ensures.value ∙ c.in_ok-runs.ensures.all in
    let sorts = rw c.board-board.ensures.value at c.in_ok-list.ensures in
    let ops : map op_in c.in_ok-list.list.items ≡ in_order board table (map op_in c.args.writes.now) = sorts.ops ∙ ap (λ (ws : List WordWrite). in_order board table (map op_in ws)) all in
    let chained = rw (c.board-board.ensures.value, c.as_slice-2.ensures.value) at c.is_chained-chained.ensures in
    subst (λ (ws : List WordWrite). None ≡ find (is_open board table (map op_in ws)) (map op_in ws)) (sym again)
    (sorted_none_open board table c.requires.seen.largest (map op_in c.args.writes.now) (map op_in c.in_ok-list.list.items) ops (sym chained ∙ is))

pub returns : goal.returns
returns c =
    let board : Board = c.args.looks.now.tree.now in
    let table : Table = table_of c.args.looks.now.table.now in
    let again : joined c.as_slice-3.result.now ≡ c.args.writes.now = ap joined c.as_slice-3.ensures.value ∙ c.in_ok-runs.ensures.all in
    subst (λ (ws : List WordWrite). c.open_unless.result ≡ find (is_open board table (map op_in ws)) (map op_in ws)) again c.open_unless.ensures
