use Rattle.std.proofs.Common.{◌≡◌, List, None, map, sym, ap, subst, ◌∙◌}
use Rattle.std.specs.List.{find, AllByRecursion}
use Rattle.board_model.specs.declared.board.Board.{Board}
use Rattle.safe_model.specs.Clocks.{Table}
use Rattle.safe_model.specs.said.Said.{is_open, in_order}
use Rattle.audit_clocks.specs.Tables.{dword}
use Rattle.board_writes.specs.declared.writers.write.WordWrite.{WordWrite}
use Rattle.board_writes.specs.Rows.{table_of}
use Rattle.board_writes.specs.Writes.{op_in, IsWordWrite}
use Rattle.safe_said.specs.Landing.{Sorts, AreChained}
use Rattle.board_writes.specs.Stretches.{joined}
use Rattle.safe_said.proofs.MemberLemmas.{reached_are}
use Rattle.safe_said.proofs.ChainLemmas.{sorted_none_open}
use Rattle.safe_said.proofs.members.reached_of.Goals as goal

pub all_left-requires : goal.all_left-requires
all_left-requires c =
    let board : Board = c.args.looks.now.tree.now in
    let table : Table = table_of c.args.looks.now.table.now in
    let are = reached_are board table (dword c.args.word) c.of_word.result.now c.in_ok-writes.writes.items (c.of_word.ensures.are board c.requires.writes) c.in_ok-writes.ensures in
    let all : joined c.as_slice-2.result.now ≡ c.in_ok-writes.writes.items = ap joined c.as_slice-2.ensures.value ∙ c.in_ok-runs.ensures.all ∙ c.as_slice.ensures.value in
    rw (c.board-board.ensures.value, c.as_slice-3.ensures.value)
    ((rw c.board-board.ensures.value at c.in_ok-list.ensures).each (dword c.args.word) (subst (AllByRecursion (IsWordWrite board (dword c.args.word))) (sym all) are.each))

pub open_unless-first_open-requires-clause-runs : goal.open_unless-first_open-requires-clause-runs
open_unless-first_open-requires-clause-runs c =
    let board : Board = c.args.looks.now.tree.now in
    let table : Table = table_of c.args.looks.now.table.now in
    let runs = rw c.board-board.ensures.value at c.in_ok-runs.ensures in
    subst (AreChained board table) (sym c.as_slice-5.ensures.value) runs.each

pub open_unless-first_open-requires-clause-none : goal.open_unless-first_open-requires-clause-none
open_unless-first_open-requires-clause-none c = λ is.
    let board : Board = c.args.looks.now.tree.now in
    let table : Table = table_of c.args.looks.now.table.now in
    let all : joined c.as_slice-2.result.now ≡ c.in_ok-writes.writes.items = ap joined c.as_slice-2.ensures.value ∙ c.in_ok-runs.ensures.all ∙ c.as_slice.ensures.value in
    let again : joined c.as_slice-5.result.now ≡ c.in_ok-writes.writes.items = ap joined c.as_slice-5.ensures.value ∙ c.in_ok-runs.ensures.all ∙ c.as_slice.ensures.value in
    let sorts = rw c.board-board.ensures.value at c.in_ok-list.ensures in
    let ops : map op_in c.in_ok-list.list.items ≡ in_order board table (map op_in c.in_ok-writes.writes.items) = sorts.ops ∙ ap (λ (ws : List WordWrite). in_order board table (map op_in ws)) all in
    let chained = rw (c.board-board.ensures.value, c.as_slice-4.ensures.value) at c.is_chained-chained.ensures in
    subst (λ (ws : List WordWrite). None ≡ find (is_open board table (map op_in ws)) (map op_in ws)) (sym again)
    (sorted_none_open board table c.requires.largest (map op_in c.in_ok-writes.writes.items) (map op_in c.in_ok-list.list.items) ops (sym chained ∙ is))

pub returns : goal.returns
returns c =
    let board : Board = c.args.looks.now.tree.now in
    let table : Table = table_of c.args.looks.now.table.now in
    let all : joined c.as_slice-2.result.now ≡ c.in_ok-writes.writes.items = ap joined c.as_slice-2.ensures.value ∙ c.in_ok-runs.ensures.all ∙ c.as_slice.ensures.value in
    let again : joined c.as_slice-5.result.now ≡ c.in_ok-writes.writes.items = ap joined c.as_slice-5.ensures.value ∙ c.in_ok-runs.ensures.all ∙ c.as_slice.ensures.value in
    let sorts = rw c.board-board.ensures.value at c.in_ok-list.ensures in
    record {
      writes = reached_are board table (dword c.args.word) c.of_word.result.now c.in_ok-writes.writes.items (c.of_word.ensures.are board c.requires.writes) c.in_ok-writes.ensures;
      runs = rw (c.board-board.ensures.value, c.as_slice.ensures.value) at c.in_ok-runs.ensures;
      list = subst (λ (ws : List WordWrite). Sorts board table ws c.in_ok-list.list.items) all sorts;
      values = rw (c.board-board.ensures.value, c.as_slice-3.ensures.value) at c.in_ok-values.ensures;
      chained = rw (c.board-board.ensures.value, c.as_slice-4.ensures.value) at c.is_chained-chained.ensures;
      first_open = subst (λ (ws : List WordWrite). c.open_unless-first_open.result ≡ find (is_open board table (map op_in ws)) (map op_in ws)) again c.open_unless-first_open.ensures;
    }
