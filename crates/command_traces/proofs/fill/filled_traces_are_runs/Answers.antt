use Rattle.command_traces.proofs.fill.ServedLemmas.{run_has, filled_runs}
use Rattle.command_traces.proofs.fill.filled_traces_are_runs.Goals as goal

pub returns : goal.returns
returns c = record { runs = filled_runs; served = run_has }
