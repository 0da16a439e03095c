use Rattle.trace_roundtrip.proofs.TraceLemmas.{trace_law}
use Rattle.trace_roundtrip.proofs.traces_are_read.Goals as goal

pub returns : goal.returns
returns c = trace_law
