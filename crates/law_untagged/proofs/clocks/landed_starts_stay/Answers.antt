use Rattle.law_untagged.proofs.clocks.NamedLemmas.{start_stays, landed_started}
use Rattle.law_untagged.proofs.clocks.landed_starts_stay.Goals as goal

pub returns : goal.returns
returns c = λ board e h w run landed. start_stays board e h w (landed_started board h w run.1 landed)
