use Rattle.law_lanes.proofs.StandingLemmas.{CanStand-run_by, CanStand-run}
use Rattle.law_lanes.proofs.standing.Goals as goal

pub returns : goal.returns
returns c = record { stands = CanStand-run; under_either_rule = CanStand-run_by }
