use Rattle.trace_roundtrip.proofs.events.EventLemmas.{event_read, event_plain}
use Rattle.trace_roundtrip.proofs.events.event_lines_are_read.Goals as goal

pub returns-clause-read : goal.returns-clause-read
returns-clause-read c = event_read

pub returns-clause-words : goal.returns-clause-words
returns-clause-words c = event_plain
