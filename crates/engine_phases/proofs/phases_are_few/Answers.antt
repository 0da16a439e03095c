use Rattle.engine_phases.proofs.SteadyLemmas.{few_phases}
use Rattle.engine_phases.proofs.phases_are_few.Goals as goal

pub returns : goal.returns
returns g c =
    let E = g.L.LaneEnd in
    λ board workers phases valid after. few_phases E.had E.sent E.got E.kept E.paired board valid workers phases after (record { bounded = c.runs_end.ensures.bounded })
