use Rattle.worked_runs.proofs.FoundLemmas.{relay_sound}
use Rattle.worked_runs.proofs.relay_is_found.Goals as goal

pub returns : goal.returns
returns c = relay_sound
