use Rattle.law_lanes.proofs.OwnersRunLemmas.{Owners-run}
use Rattle.law_lanes.proofs.owners.Goals as goal

pub returns : goal.returns
returns c = λ board h distinct single run. Owners-run board distinct single h run
