use Rattle.std.proofs.Common.{sym, ◌∙◌, arith}
use Rattle.board_writes.specs.Rows.{table_of}
use Rattle.safe_said.proofs.RunLemmas.{chained_next}
use Rattle.safe_said.proofs.runs.run_length.Goals as goal

pub loop-count-preserved : goal.loop-count-preserved
loop-count-preserved c = record {
  some = omega arith;
  within = omega (arith, c.loop-count-test.true);
  run =
      chained_next c.args.board.now (table_of c.args.table.now) c.args.writes.now c.loop-count.count _ _ c.loop-count.invariant.some c.loop-count-test.true c.loop-count.invariant.run
      (sym c.lands_no_more.ensures ∙ c.if-lands_no_more.true);
}
