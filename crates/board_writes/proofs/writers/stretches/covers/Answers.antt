use Rattle.std.proofs.Common.{refl}
use Rattle.board_writes.proofs.CleanLemmas.{covered}
use Rattle.board_writes.proofs.writers.stretches.covers.Goals as goal

pub returns : goal.returns
returns c = λ writes are. covered c.args.bits c.args.mask _ writes c.ranges.mask.fits refl are
