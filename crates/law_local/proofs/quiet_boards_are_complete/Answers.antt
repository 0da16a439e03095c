use Rattle.law_local.proofs.ApartLemmas.{IsFit-valid}
use Rattle.law_local.proofs.EndLemmas.{quiet_complete}
use Rattle.law_local.proofs.quiet_boards_are_complete.Goals as goal

pub returns : goal.returns
returns c = λ board sent h valid joint quiet. quiet_complete board (IsFit-valid board valid) sent h joint.joint joint.run valid quiet
