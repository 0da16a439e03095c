use Rattle.std.proofs.Common.{Bool, not, ◌&&◌, refl, sym, ◌∙◌}
use Rattle.pci_command.specs.declared.op_id.OpId.{OpId}
use Rattle.pci_command.specs.Same.{same_op}
use Rattle.safe_model.specs.said.Said.{is_settled}
use Rattle.board_writes.specs.Rows.{table_of}
use Rattle.safe_said.proofs.OpenLemmas.{none_yet, one_now, none_at_last, chained_at}
use Rattle.safe_said.proofs.open.is_open.Goals as goal

pub loop-run-init : goal.loop-run-init
loop-run-init c = refl

pub is_open_in-requires-clause-run : goal.is_open_in-requires-clause-run
is_open_in-requires-clause-run c = chained_at c.args.looks.now.tree.now (table_of c.args.looks.now.table.now) c.args.runs.now c.loop-run.run-index c.run-item.result c.as_slice.result.now c.loop-run-test.true c.run-item.is c.as_slice.ensures c.requires.runs

pub returns-then-is_open_in : goal.returns-then-is_open_in
returns-then-is_open_in c =
    let test : OpId → Bool = λ b. not (same_op c.args.write b) && not (is_settled c.args.looks.now.tree.now (table_of c.args.looks.now.table.now) c.args.write b) in
    one_now test c.args.runs.now c.loop-run.run-index c.run-item.result c.as_slice.result.now c.loop-run-test.true c.run-item.is c.as_slice.ensures (sym c.is_open_in.ensures ∙ c.if-is_open_in.true) c.loop-run.invariant

pub loop-run-preserved : goal.loop-run-preserved
loop-run-preserved c =
    let test : OpId → Bool = λ b. not (same_op c.args.write b) && not (is_settled c.args.looks.now.tree.now (table_of c.args.looks.now.table.now) c.args.write b) in
    none_yet test c.args.runs.now c.loop-run.run-index c.run-item.result c.as_slice.result.now c.loop-run-test.true c.run-item.is c.as_slice.ensures (sym c.is_open_in.ensures ∙ c.if-is_open_in.false) c.loop-run.invariant

pub returns : goal.returns
returns c =
    let test : OpId → Bool = λ b. not (same_op c.args.write b) && not (is_settled c.args.looks.now.tree.now (table_of c.args.looks.now.table.now) c.args.write b) in
    none_at_last test c.args.runs.now c.loop-run.run-index c.loop-run-test.false c.loop-run.invariant
