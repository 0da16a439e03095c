use Rattle.std.proofs.Common.{arith, sym, ◌∙◌}
use Rattle.observe_log.proofs.PlainLemmas.{plain_later}
use Rattle.observe_log.proofs.plain.length_of_plain.Goals as goal

pub loop-left-preserved : goal.loop-left-preserved
loop-left-preserved c =
    let fewer = c.split_at.ensures.back_len in
    let within = c.loop-left.invariant.within in
    record {
      within = omega (arith, fewer, within);
      so_far =
          plain_later c.args.text.now c.loop-left.left.now c.split_at.result.0.now c.split_at.result.1.now 16
          c.split_at.ensures.front c.split_at.ensures.back c.loop-left-test.true (sym c.are_plain.ensures ∙ c.if-not-are_plain.false) c.split_at.ensures.front_len within c.loop-left.invariant.so_far;
    }
