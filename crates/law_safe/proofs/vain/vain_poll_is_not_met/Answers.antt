use Rattle.law_safe.proofs.vain.VainLemmas.{never_met}
use Rattle.law_safe.proofs.vain.vain_poll_is_not_met.Goals as goal

pub returns : goal.returns
returns c = λ board table e h p want outcome valid consistent vain run ends. never_met board valid table consistent e h p want outcome vain run ends
