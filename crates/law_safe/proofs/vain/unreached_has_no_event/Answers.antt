use Rattle.law_safe.proofs.vain.VainLemmas.{no_event}
use Rattle.law_safe.proofs.vain.unreached_has_no_event.Goals as goal

pub returns : goal.returns
returns c = λ board table h o on by step place valid consistent unreached run. no_event board valid table consistent o unreached h on by step place run
