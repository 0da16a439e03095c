use Rattle.law_lanes.proofs.progress.NextSoundLemmas.{next_allowed}
use Rattle.law_lanes.proofs.progress.NextStopLemmas.{next_complete}
use Rattle.law_lanes.proofs.progress.next_goes_on.Goals as goal

pub returns-clause-allowed : goal.returns-clause-allowed
returns-clause-allowed c = next_allowed

pub returns-clause-complete : goal.returns-clause-complete
returns-clause-complete c = next_complete
