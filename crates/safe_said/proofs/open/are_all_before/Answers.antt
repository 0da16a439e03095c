use Rattle.std.proofs.Common.{Bool}
use Rattle.pci_command.specs.declared.op_id.OpId.{OpId}
use Rattle.safe_model.specs.largest.Tests.{is_before}
use Rattle.board_writes.specs.Rows.{table_of}
use Rattle.safe_said.proofs.OpenLemmas.{kept_begin, kept_on, kept_over, chained_at}
use Rattle.safe_said.proofs.open.are_all_before.Goals as goal

pub loop-run-init : goal.loop-run-init
loop-run-init c = kept_begin (λ write. is_before c.args.looks.now.tree.now (table_of c.args.looks.now.table.now) write c.args.read) c.args.runs.now

pub is_last_before-requires-clause-run : goal.is_last_before-requires-clause-run
is_last_before-requires-clause-run c = chained_at c.args.looks.now.tree.now (table_of c.args.looks.now.table.now) c.args.runs.now c.loop-run.run-index c.run-item.result c.as_slice.result.now c.loop-run-test.true c.run-item.is c.as_slice.ensures c.requires.runs

pub loop-run-preserved : goal.loop-run-preserved
loop-run-preserved c =
    let test : OpId → Bool = λ write. is_before c.args.looks.now.tree.now (table_of c.args.looks.now.table.now) write c.args.read in
    kept_on test c.args.runs.now c.loop-run.run-index c.run-item.result c.as_slice.result.now c.loop-run-test.true c.run-item.is c.as_slice.ensures (c.is_last_before.ensures c.if-not-is_last_before.false) c.loop-run.invariant

pub returns : goal.returns
returns c =
    let test : OpId → Bool = λ write. is_before c.args.looks.now.tree.now (table_of c.args.looks.now.table.now) write c.args.read in
    λ _. kept_over test c.args.runs.now c.loop-run.run-index c.loop-run-test.false c.loop-run.invariant
