use Rattle.std.proofs.Common.{Bool, map, refl, sym, ◌∙◌}
use Rattle.pci_command.specs.declared.op_id.OpId.{OpId}
use Rattle.safe_model.specs.said.Said.{is_open}
use Rattle.board_writes.specs.Rows.{table_of}
use Rattle.board_writes.specs.Writes.{op_in}
use Rattle.board_writes.specs.Stretches.{joined}
use Rattle.safe_said.proofs.RunLemmas.{found_among, none_among, none_at_all}
use Rattle.safe_said.proofs.open.first_open.Goals as goal

pub loop-run-init : goal.loop-run-init
loop-run-init c = refl

pub returns-in-Some : goal.returns-in-Some
returns-in-Some c =
    let test : OpId → Bool = is_open c.args.looks.now.tree.now (table_of c.args.looks.now.table.now) (map op_in (joined c.args.runs.now)) in
    found_among test c.args.runs.now c.loop-run.run-index c.run-item.result c.as_slice.result.now c.in-Some.open c.loop-run-test.true c.run-item.is c.as_slice.ensures c.in-Some.ensures c.loop-run.invariant

pub loop-run-preserved : goal.loop-run-preserved
loop-run-preserved c =
    let test : OpId → Bool = is_open c.args.looks.now.tree.now (table_of c.args.looks.now.table.now) (map op_in (joined c.args.runs.now)) in
    none_among test c.args.runs.now c.loop-run.run-index c.run-item.result c.as_slice.result.now c.loop-run-test.true c.run-item.is c.as_slice.ensures (sym c.in_default.is ∙ c.first_open_in.ensures) c.loop-run.invariant

pub returns : goal.returns
returns c =
    let test : OpId → Bool = is_open c.args.looks.now.tree.now (table_of c.args.looks.now.table.now) (map op_in (joined c.args.runs.now)) in
    none_at_all test c.args.runs.now c.loop-run.run-index c.loop-run-test.false c.loop-run.invariant
