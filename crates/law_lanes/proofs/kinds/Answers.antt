use Rattle.law_lanes.proofs.KindLemmas.{RightKind-run}
use Rattle.law_lanes.proofs.kinds.Goals as goal

pub returns : goal.returns
returns c =
    record {
      flying = λ board h lane run. (RightKind-run board h lane run).0;
      stands = λ board h lane run. (RightKind-run board h lane run).1;
    }
