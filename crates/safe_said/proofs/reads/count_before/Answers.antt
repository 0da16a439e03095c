use Rattle.std.proofs.Common.{rules, of_calls, Bool, map, get_or, sym, ◌∙◌}
use Rattle.std.proofs.lemmas.Fn.{always_returns_same}
use Rattle.board_model.specs.declared.board.Board.{Board}
use Rattle.pci_command.specs.declared.op_id.OpId.{OpId}
use Rattle.safe_model.specs.Clocks.{Table}
use Rattle.safe_model.specs.largest.Tests.{is_before}
use Rattle.board_writes.specs.declared.writers.write.WordWrite.{WordWrite}
use Rattle.board_writes.specs.Rows.{table_of}
use Rattle.board_writes.specs.Looks.{before_in}
use Rattle.board_writes.specs.Writes.{op_in}
use Rattle.board_writes.proofs.PollLemmas.{before_so}
use Rattle.safe_said.proofs.ChainLemmas.{chain_of}
use Rattle.safe_said.proofs.RunLemmas.{is_parted, point_is}
use Rattle.safe_said.proofs.reads.count_before.Goals as goal

pub returns-clause-count : goal.returns-clause-count
returns-clause-count c =
    let board : Board = c.args.looks.now.tree.now in
    let table : Table = table_of c.args.looks.now.table.now in
    let test : WordWrite → Bool = λ w. before_in c.args.looks.now.table.now w.op c.args.read in
    let same = λ (o : OpId). before_so board c.args.looks.now.table.now c.requires.seen.polls o c.args.read in
    let parted = is_parted board table c.requires.seen.largest c.args.read c.args.run.now (chain_of board table c.requires.seen.largest (map op_in c.args.run.now) c.requires.run) in
    let point = c.partition_point.ensures.partitioned test (always_returns_same _ _ _ (λ a r f k. search (rules, of_calls))) (λ i j d order within passed. same (get_or c.args.run.now i d).op ∙ parted i j d order within (sym (same (get_or c.args.run.now j d).op) ∙ passed)) in
    point_is (λ o. is_before board table o c.args.read) c.args.run.now c.partition_point.result c.partition_point.ensures.bound
    (λ k d low high. sym (same (get_or c.args.run.now k d).op) ∙ point.0 k d low high, λ k d low high. sym (same (get_or c.args.run.now k d).op) ∙ point.1 k d low high)
