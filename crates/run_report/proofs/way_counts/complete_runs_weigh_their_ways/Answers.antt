use Rattle.run_report.proofs.way_counts.EndLemmas.{complete_weighs}
use Rattle.run_report.proofs.way_counts.complete_runs_weigh_their_ways.Goals as goal

pub returns : goal.returns
returns c = λ board weight h valid steady run complete. complete_weighs board weight h valid steady run complete
