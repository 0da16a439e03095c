use Rattle.audit_clocks.specs.Tables.{dword}
use Rattle.safe_said.proofs.LandingLemmas.{left_whole}
use Rattle.safe_said.proofs.values.left_by.Goals as goal

pub returns : goal.returns
returns c =
    left_whole c.args.board.now (dword c.args.word) c.mask_of-mask.result c.loop-write.value c.loop-write.write-index c.args.writes.now c.mask_of-mask.ensures c.loop-write-test.false c.requires c.loop-write.invariant
