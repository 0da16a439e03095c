use Rattle.draw_journeys.proofs.RunLemmas.{shows_run}
use Rattle.draw_journeys.specs.Steps.{journeys_in}
use Rattle.draw_journeys.proofs.laws.journeys_show_runs.Goals as goal

pub returns : goal.returns
unfolding journeys_in
returns c = λ board events. shows_run board events
