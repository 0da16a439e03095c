use Rattle.std.proofs.Common.{length}
use Rattle.observe_log.specs.Data.{Going}
use Rattle.observe_log.proofs.line.data.read_data.Given as goal

abbrev pub invariant-loop-word : goal.invariant-loop-word
invariant-loop-word l = Going l.fn.phases.items l.phases.items l.count l.words l.fn.words

abbrev pub decreases-loop-word : goal.decreases-loop-word
decreases-loop-word l = length l.words
