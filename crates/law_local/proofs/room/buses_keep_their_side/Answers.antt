use Rattle.law_local.proofs.Laws.{IsFit-valid}
use Rattle.law_local.proofs.room.SideLemmas.{run_keeps}
use Rattle.law_local.proofs.room.buses_keep_their_side.Goals as goal

pub returns : goal.returns
returns c = λ board bus lane posted delayed came p valid depths starts apart none run. run_keeps board (IsFit-valid board valid) bus posted delayed came p run lane depths starts apart none
