use Rattle.std.proofs.Common.{Bool, refl, sym, ◌∙◌}
use Rattle.pci_command.specs.declared.op_id.OpId.{OpId}
use Rattle.safe_model.specs.said.Said.{is_beside}
use Rattle.board_writes.specs.Rows.{table_of}
use Rattle.safe_said.proofs.RunLemmas.{found_among, none_among, none_at_all}
use Rattle.safe_said.proofs.reads.first_beside.Goals as goal

pub loop-run-init : goal.loop-run-init
loop-run-init c = refl

pub returns-in-Some : goal.returns-in-Some
returns-in-Some c =
    let test : OpId → Bool = is_beside c.args.looks.now.tree.now (table_of c.args.looks.now.table.now) c.args.read in
    found_among test c.args.runs.now c.loop-run.run-index c.run-item.result c.as_slice.result.now c.in-Some.beside c.loop-run-test.true c.run-item.is c.as_slice.ensures c.in-Some.ensures c.loop-run.invariant

pub loop-run-preserved : goal.loop-run-preserved
loop-run-preserved c =
    let test : OpId → Bool = is_beside c.args.looks.now.tree.now (table_of c.args.looks.now.table.now) c.args.read in
    none_among test c.args.runs.now c.loop-run.run-index c.run-item.result c.as_slice.result.now c.loop-run-test.true c.run-item.is c.as_slice.ensures (sym c.in_default.is ∙ c.beside_in.ensures) c.loop-run.invariant

pub returns : goal.returns
returns c =
    let test : OpId → Bool = is_beside c.args.looks.now.tree.now (table_of c.args.looks.now.table.now) c.args.read in
    none_at_all test c.args.runs.now c.loop-run.run-index c.loop-run-test.false c.loop-run.invariant
