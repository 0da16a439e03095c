use Rattle.std.proofs.Common.{arith}
use Rattle.safe_model.specs.Raisers.{is_met_by}
use Rattle.board_writes.proofs.ScanLemmas.{last_close, last_earlier}
use Rattle.board_writes.proofs.polls.awaited.Awaited.count_to_last.Goals as goal

pub returns-then-count-gt0-clause-count : goal.returns-then-count-gt0-clause-count
returns-then-count-gt0-clause-count c =
    last_close (is_met_by c.args.self.now.want) c.args.values.now c.loop-left.left.now c.split_at.result.0.now c.split_at.result.1.now _ c.count_close_to_last-count.result
    c.split_at.ensures.front c.split_at.ensures.back c.count_close_to_last-count.ensures.count c.if-count-gt0.true c.loop-left.invariant.so_far

pub loop-left-preserved : goal.loop-left-preserved
loop-left-preserved c =
    let fewer = c.split_at.ensures.front_len in
    let within = c.loop-left.invariant.within in
    record {
      within = omega (arith, fewer, within);
      so_far =
          last_earlier (is_met_by c.args.self.now.want) c.args.values.now c.loop-left.left.now c.split_at.result.0.now c.split_at.result.1.now _ c.count_close_to_last-count.result
          c.split_at.ensures.front c.split_at.ensures.back c.count_close_to_last-count.ensures.count c.if-count-gt0.false c.loop-left.invariant.so_far;
    }
