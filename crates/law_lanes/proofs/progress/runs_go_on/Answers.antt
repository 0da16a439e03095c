use Rattle.law_lanes.proofs.progress.GoOnLemmas as go_on
use Rattle.law_lanes.proofs.progress.runs_go_on.Goals as goal

pub returns : goal.returns
returns c = go_on.runs_go_on
