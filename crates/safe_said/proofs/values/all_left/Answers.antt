use Rattle.std.proofs.Common.{arith}
use Rattle.audit_clocks.specs.Tables.{dword}
use Rattle.safe_said.proofs.LandingLemmas.{left_more, left_ends}
use Rattle.safe_said.proofs.values.all_left.Goals as goal

pub loop-write-preserved : goal.loop-write-preserved
loop-write-preserved c =
    left_more c.args.board.now (dword c.args.word) c.mask_of-mask.result c.loop-write.value c.loop-write.write-index c.merge-value.result c.args.writes.now _ c.loop-write.values.items c.push-in-loop-write.new.self.items c.loop-write-test.true c.merge-value.ensures c.in_ok-push-2.ensures.items c.loop-write.invariant

pub returns : goal.returns
returns c =
    left_ends c.args.board.now (dword c.args.word) c.mask_of-mask.result c.loop-write.value c.loop-write.write-index c.args.writes.now c.loop-write.values.items c.mask_of-mask.ensures (omega (arith, c.loop-write-test.false, c.loop-write.auto.write-index-end)) c.requires c.loop-write.invariant
