use Rattle.trace_roundtrip.proofs.names.OperationLemmas.{op_is_read, op_is_word, op_is_short}
use Rattle.trace_roundtrip.proofs.names.operations_are_read.Goals as goal

pub returns-clause-read : goal.returns-clause-read
returns-clause-read c = op_is_read

pub returns-clause-word : goal.returns-clause-word
returns-clause-word c = λ board o fits formed small there. op_is_word board o fits formed there

pub returns-clause-short : goal.returns-clause-short
returns-clause-short c = λ board o fits formed small there. op_is_short board o fits formed there
