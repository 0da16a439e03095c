use Rattle.engine_phases.proofs.ring.RoundLemmas.{few_before, few_rounds}
use Rattle.engine_phases.proofs.ring.rounds_are_few.Goals as goal

pub returns-clause-events : goal.returns-clause-events
returns-clause-events g c =
    let E = g.L.LaneEnd in
    λ board workers phases valid after. few_before E.had E.sent E.got E.kept E.paired board valid workers phases after (record { bounded = c.runs_end.ensures.bounded })

pub returns-clause-phases : goal.returns-clause-phases
returns-clause-phases g c =
    let E = g.L.LaneEnd in
    λ board workers phases valid after. few_rounds E.had E.sent E.got E.kept E.paired board valid workers phases after (record { bounded = c.runs_end.ensures.bounded })
