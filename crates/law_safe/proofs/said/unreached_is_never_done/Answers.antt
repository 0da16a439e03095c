use Rattle.law_safe.proofs.vain.VainLemmas.{no_event}
use Rattle.law_safe.proofs.said.SaidLemmas.{not_reached}
use Rattle.law_safe.proofs.said.unreached_is_never_done.Goals as goal

pub returns : goal.returns
returns c = λ board table h o on by step place valid is_largest none run. no_event board valid table is_largest.consistent o (not_reached board table o none) h on by step place run
