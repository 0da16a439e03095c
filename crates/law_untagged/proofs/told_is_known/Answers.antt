use Rattle.law_untagged.proofs.ToldLemmas.{told_known, known_told}
use Rattle.law_untagged.proofs.told_is_known.Goals as goal

pub returns : goal.returns
returns c = λ board h w r run. (told_known board w h run r, known_told board w h run r)
