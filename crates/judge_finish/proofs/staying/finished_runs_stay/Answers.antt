use Rattle.judge_finish.proofs.StayLemmas.{again_stays, fronts_stay}
use Rattle.judge_finish.proofs.staying.finished_runs_stay.Goals as goal

pub returns : goal.returns
returns c = record { again = again_stays; fronts = fronts_stay }
