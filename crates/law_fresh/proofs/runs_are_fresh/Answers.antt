use Rattle.law_fresh.proofs.FreshLemmas.{Fresh-run}
use Rattle.law_fresh.proofs.runs_are_fresh.Goals as goal

pub returns : goal.returns
returns c = λ board h valid run. Fresh-run board h valid run
