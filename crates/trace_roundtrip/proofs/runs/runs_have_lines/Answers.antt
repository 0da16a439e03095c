use Rattle.trace_roundtrip.proofs.runs.LineLemmas.{HasLine-run}
use Rattle.trace_roundtrip.proofs.runs.runs_have_lines.Goals as goal

pub returns : goal.returns
returns c = HasLine-run
