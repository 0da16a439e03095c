use Rattle.law_safe.proofs.before.SoundLemmas.{after_not_seen}
use Rattle.law_safe.proofs.before.after_is_not_seen.Goals as goal

pub returns : goal.returns
returns c = λ board table h w r reading valid consistent run no_poll is_before is_got. after_not_seen board valid table consistent h w r reading run no_poll is_before is_got
