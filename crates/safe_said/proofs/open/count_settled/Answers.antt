use Rattle.std.proofs.Common.{rules, of_calls, Bool}
use Rattle.std.proofs.lemmas.Fn.{always_returns_same}
use Rattle.board_model.specs.declared.board.Board.{Board}
use Rattle.safe_model.specs.Clocks.{Table}
use Rattle.safe_model.specs.largest.Tests.{lands_no_more}
use Rattle.board_writes.specs.declared.writers.write.WordWrite.{WordWrite}
use Rattle.board_writes.specs.Rows.{table_of}
use Rattle.safe_said.proofs.OpenLemmas.{is_settled_parted}
use Rattle.safe_said.proofs.RunLemmas.{point_is}
use Rattle.safe_said.proofs.open.count_settled.Goals as goal

pub returns-clause-count : goal.returns-clause-count
returns-clause-count c =
    let board : Board = c.args.looks.now.tree.now in
    let table : Table = table_of c.args.looks.now.table.now in
    let test : WordWrite → Bool = λ w. lands_no_more board table w.op c.args.write in
    let parted = is_settled_parted board table c.requires.seen.largest c.args.write c.args.run.now c.requires.run in
    let point = c.partition_point.ensures.partitioned test (always_returns_same _ _ _ (λ a r f k. search (rules, of_calls))) parted in
    point_is (λ o. lands_no_more board table o c.args.write) c.args.run.now c.partition_point.result c.partition_point.ensures.bound point
