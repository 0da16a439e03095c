use Rattle.law_local.proofs.ApartLemmas.{IsFit-valid}
use Rattle.law_local.proofs.WovenLemmas.{woven_run}
use Rattle.law_local.proofs.woven_runs.Goals as goal

pub returns : goal.returns
returns c = λ board sent h valid between woven. woven_run board sent (IsFit-valid board valid) between h woven
