use Rattle.law_safe.proofs.lost.WholeLemmas.{ended_landed}
use Rattle.law_safe.proofs.lost.ended_writes_land.Goals as goal

pub returns : goal.returns
returns c = λ board h w valid run complete writes some ends. ended_landed board h w valid run complete writes some ends
