use Rattle.trace_roundtrip.proofs.names.NumberLemmas.{number_is_read, number_is_short}
use Rattle.trace_roundtrip.proofs.names.numbers_are_read.Goals as goal

pub returns-clause-read : goal.returns-clause-read
returns-clause-read c = number_is_read

pub returns-clause-short : goal.returns-clause-short
returns-clause-short c = number_is_short
