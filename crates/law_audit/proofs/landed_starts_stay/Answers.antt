use Rattle.law_audit.proofs.StartLemmas.{start_stays}
use Rattle.law_audit.proofs.landed_starts_stay.Goals as goal

pub returns : goal.returns
returns c = λ board e h w author run landed. start_stays board e h w author run landed
