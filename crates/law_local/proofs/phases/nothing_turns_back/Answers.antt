use Rattle.law_local.proofs.phases.ClaimedLemmas.{nothing_back}
use Rattle.law_local.proofs.phases.nothing_turns_back.Goals as goal

pub returns : goal.returns
returns c = nothing_back
