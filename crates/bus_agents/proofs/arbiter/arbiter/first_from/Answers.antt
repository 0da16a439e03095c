use Rattle.bus_agents.proofs.arbiter.AheadLemmas.{lowest_ahead, lowest_of_all}
use Rattle.bus_agents.proofs.arbiter.arbiter.first_from.Goals as goal

pub returns-then-ahead-eq0 : goal.returns-then-ahead-eq0
returns-then-ahead-eq0 c =
    lowest_of_all _ _ _ c.requires.line c.lowest.ensures.line c.if-ahead-eq0.true c.lowest.ensures.asks c.lowest.ensures.least

pub returns-else-ahead-eq0 : goal.returns-else-ahead-eq0
returns-else-ahead-eq0 c =
    let call = c.lowest-else-ahead-eq0 in
    lowest_ahead _ _ _ c.requires.line call.ensures.line call.ensures.asks call.ensures.least
