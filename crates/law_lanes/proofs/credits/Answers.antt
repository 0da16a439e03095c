use Rattle.law_lanes.proofs.CreditsLemmas.{Credits-run_by, Credits-run}
use Rattle.law_lanes.proofs.credits.Goals as goal

pub returns : goal.returns
returns c = record { counted = Credits-run; under_either_rule = Credits-run_by }
