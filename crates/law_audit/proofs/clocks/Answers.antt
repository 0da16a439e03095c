use Rattle.law_audit.proofs.ClockLemmas.{known_reaches}
use Rattle.law_audit.proofs.clocks.Goals as goal

pub returns : goal.returns
returns c = λ board h w master valid run write. known_reaches board valid h w master run write
