use Rattle.law_safe.proofs.lost.NowhereLemmas.{nowhere_reads}
use Rattle.law_safe.proofs.lost.nowhere_never_reads.Goals as goal

pub returns : goal.returns
returns c = λ board table h r aborted valid run said. nowhere_reads board table h r aborted valid run said
