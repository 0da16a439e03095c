use Rattle.trace_roundtrip.proofs.runs.SaidLemmas.{WorldSays-run}
use Rattle.trace_roundtrip.proofs.runs.completions_say_how.Goals as goal

pub returns : goal.returns
returns c =
    record {
      flying = λ board h lane run. (WorldSays-run board h run lane).0;
      standing = λ board h lane run. (WorldSays-run board h run lane).1;
    }
