use Rattle.law_lanes.proofs.LawfulLemmas.{Lawful-run}
use Rattle.law_lanes.proofs.lawful.Goals as goal

pub returns : goal.returns
returns c = Lawful-run
