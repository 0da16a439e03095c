use Rattle.law_lanes.proofs.moves.MoveLemmas.{moves_after}
use Rattle.law_lanes.proofs.moves.moves_are_after.Goals as goal

pub returns : goal.returns
returns c = moves_after
