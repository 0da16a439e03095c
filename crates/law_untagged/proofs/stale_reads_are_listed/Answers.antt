use Rattle.law_untagged.proofs.ListedLemmas.{listed_exactly}
use Rattle.law_untagged.proofs.stale_reads_are_listed.Goals as goal

pub returns : goal.returns
returns c = λ board h r run. listed_exactly board h run r
