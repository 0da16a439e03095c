use Rattle.std.proofs.Common.{◌≤◌, List, length, map, get_or, ap, subst, ◌∙◌}
use Rattle.std.specs.List.{prefix_len}
use Rattle.board_model.specs.declared.board.Board.{Board}
use Rattle.safe_model.specs.Clocks.{Table}
use Rattle.safe_model.specs.largest.Tests.{is_before}
use Rattle.safe_model.specs.said.Said.{safe}
use Rattle.audit_clocks.specs.Tables.{dword}
use Rattle.board_writes.specs.declared.writers.write.WordWrite.{WordWrite}
use Rattle.board_writes.specs.Rows.{table_of}
use Rattle.board_writes.specs.Writes.{op_in}
use Rattle.safe_said.proofs.RunLemmas.{chain_value}
use Rattle.safe_said.proofs.reads.said_in_chain.Goals as goal

pub count_before-count-requires-clause-run : goal.count_before-count-requires-clause-run
count_before-count-requires-clause-run c = rw c.list.ensures c.requires.chained

pub returns : goal.returns
returns c =
    let board : Board = c.args.looks.now.tree.now in
    let table : Table = table_of c.args.looks.now.table.now in
    let count_is = ap (λ (ws : List WordWrite). prefix_len (λ o. is_before board table o c.args.read) (map op_in ws)) c.list.ensures in
    let within : c.count_before-count.result ≤ length c.args.reached.now.list = subst (λ (ws : List WordWrite). c.count_before-count.result ≤ length ws) c.list.ensures c.count_before-count.ensures.within in
    ap (λ v. safe (dword c.args.word) v)
    (c.value_at-value.ensures
    ∙ ap (λ vs. get_or vs c.count_before-count.result 0) c.values.ensures
    ∙ chain_value board table c.requires.seen.largest (dword c.args.word) c.args.read c.args.reached.now c.count_before-count.result c.requires.members c.requires.chained (c.count_before-count.ensures.count ∙ count_is) within)
