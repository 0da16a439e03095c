use Rattle.std.proofs.Common.{sym, ◌∙◌, arith}
use Rattle.safe_model.specs.Raisers.{is_met_by}
use Rattle.board_writes.proofs.ScanLemmas.{none_first, first_on, first_here}
use Rattle.board_writes.proofs.polls.awaited.Awaited.count_close.Goals as goal

pub returns-then-not-is_any_met-clause-count : goal.returns-then-not-is_any_met-clause-count
returns-then-not-is_any_met-clause-count c = none_first (is_met_by c.args.self.now.want) c.args.values.now (sym c.is_any_met.ensures ∙ c.if-not-is_any_met.true)

pub loop-count-preserved : goal.loop-count-preserved
loop-count-preserved c = record {
  within = omega (arith, c.loop-count-test.true);
  so_far = first_on (is_met_by c.args.self.now.want) c.args.values.now c.loop-count.count 0 c.loop-count-test.true (sym c.is_met_by.ensures ∙ c.if-not-is_met_by.true) c.loop-count.invariant.so_far;
}

pub returns-else-not-is_met_by-clause-count : goal.returns-else-not-is_met_by-clause-count
returns-else-not-is_met_by-clause-count c = first_here (is_met_by c.args.self.now.want) c.args.values.now c.loop-count.count 0 c.loop-count-test.true (sym c.is_met_by.ensures ∙ c.if-not-is_met_by.false) c.loop-count.invariant.so_far
