use Rattle.law_lanes.proofs.MatchedLemmas.{TakesItsOwn-run}
use Rattle.law_lanes.proofs.MatchedRunLemmas.{Matched-run}
use Rattle.law_lanes.proofs.matched.Goals as goal

pub returns : goal.returns
returns c = record { taken = TakesItsOwn-run; every_run = Matched-run }
