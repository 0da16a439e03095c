use Rattle.engine_phases.proofs.StandLemmas.{stands_on}
use Rattle.engine_phases.proofs.turns_keep_standing.Goals as goal

pub returns : goal.returns
returns c = stands_on
