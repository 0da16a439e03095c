use Rattle.law_audit.proofs.SoundLemmas.{all_sound}
use Rattle.law_audit.proofs.findings_are_so.Goals as goal

pub returns : goal.returns
returns c = λ board h valid run. all_sound board valid h run
