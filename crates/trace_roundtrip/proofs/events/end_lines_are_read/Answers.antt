use Rattle.trace_roundtrip.proofs.events.EndLemmas.{end_read, end_plain}
use Rattle.trace_roundtrip.proofs.events.end_lines_are_read.Goals as goal

pub returns-clause-read : goal.returns-clause-read
returns-clause-read c = end_read

pub returns-clause-words : goal.returns-clause-words
returns-clause-words c = end_plain
