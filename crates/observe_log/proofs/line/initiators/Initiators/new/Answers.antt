use Rattle.std.proofs.Common.{refl}
use Rattle.observe_log.proofs.InitiatorLemmas.{none_right}
use Rattle.observe_log.proofs.line.initiators.Initiators.new.Goals as goal

pub invariant_of-result : goal.invariant_of-result
invariant_of-result c = none_right c.args.board.now _ refl
