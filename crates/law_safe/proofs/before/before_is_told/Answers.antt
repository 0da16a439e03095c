use Rattle.law_safe.proofs.before.SoundLemmas.{before_told}
use Rattle.law_safe.proofs.before.before_is_told.Goals as goal

pub returns : goal.returns
returns c = λ board table h w r reading valid consistent run writes is_before is_got. before_told board valid table consistent h w r reading run writes is_before is_got
