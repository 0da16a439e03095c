use Rattle.std.proofs.Common.{arith}
use Rattle.safe_model.specs.Raisers.{is_met_by}
use Rattle.board_writes.proofs.ScanLemmas.{found_close, found_later}
use Rattle.board_writes.proofs.polls.awaited.Awaited.count_unmet.Goals as goal

pub returns-then-count-lt-AT_ONCE-clause-count : goal.returns-then-count-lt-AT_ONCE-clause-count
returns-then-count-lt-AT_ONCE-clause-count c =
    found_close (is_met_by c.args.self.now.want) c.args.values.now c.loop-left.left.now c.split_at.result.0.now c.split_at.result.1.now 64 c.count_close-count.result
    c.split_at.ensures.front c.split_at.ensures.back c.loop-left-test.true c.count_close-count.ensures.count c.if-count-lt-AT_ONCE.true c.split_at.ensures.front_len c.loop-left.invariant.within c.loop-left.invariant.so_far

pub loop-left-preserved : goal.loop-left-preserved
loop-left-preserved c =
    let fewer = c.split_at.ensures.back_len in
    let within = c.loop-left.invariant.within in
    record {
      within = omega (arith, fewer, within);
      so_far =
          found_later (is_met_by c.args.self.now.want) c.args.values.now c.loop-left.left.now c.split_at.result.0.now c.split_at.result.1.now 64 c.count_close-count.result
          c.split_at.ensures.front c.split_at.ensures.back c.loop-left-test.true c.count_close-count.ensures.count c.if-count-lt-AT_ONCE.false c.split_at.ensures.front_len within c.loop-left.invariant.so_far;
    }
