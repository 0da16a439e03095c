use Rattle.std.proofs.Common.{length}
use Rattle.pcitree.proofs.words.+fitting.Given as goal

abbrev pub decreases-fitting : goal.decreases-fitting
decreases-fitting l = length l.parts.now
