use Rattle.law_lanes.proofs.LatchedLemmas.{Latched-run}
use Rattle.law_lanes.proofs.latched.Goals as goal

pub returns : goal.returns
returns c = Latched-run
