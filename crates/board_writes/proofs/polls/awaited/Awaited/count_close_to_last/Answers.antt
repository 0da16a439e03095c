use Rattle.std.proofs.Common.{◌-◌, refl, sym, ◌∙◌, arith}
use Rattle.safe_model.specs.Raisers.{is_met_by}
use Rattle.board_writes.proofs.ScanLemmas.{none_last, last_on, last_here}
use Rattle.board_writes.proofs.polls.awaited.Awaited.count_close_to_last.Goals as goal

pub returns-then-not-is_any_met-clause-count : goal.returns-then-not-is_any_met-clause-count
returns-then-not-is_any_met-clause-count c = none_last (is_met_by c.args.self.now.want) c.args.values.now (sym c.is_any_met.ensures ∙ c.if-not-is_any_met.true)

pub loop-count-preserved : goal.loop-count-preserved
loop-count-preserved c =
    let within = c.loop-count.invariant.within in
    record {
      within = omega (arith, within);
      so_far = last_on (is_met_by c.args.self.now.want) c.args.values.now c.loop-count.count (c.loop-count.count - 1) 0 c.loop-count-test.true refl within (sym c.is_met_by.ensures ∙ c.if-not-is_met_by.true) c.loop-count.invariant.so_far;
    }

pub returns-else-not-is_met_by-clause-count : goal.returns-else-not-is_met_by-clause-count
returns-else-not-is_met_by-clause-count c = last_here (is_met_by c.args.self.now.want) c.args.values.now c.loop-count.count (c.loop-count.count - 1) 0 c.loop-count-test.true refl c.loop-count.invariant.within (sym c.is_met_by.ensures ∙ c.if-not-is_met_by.false) c.loop-count.invariant.so_far
