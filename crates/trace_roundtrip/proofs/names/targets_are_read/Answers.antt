use Rattle.trace_roundtrip.proofs.names.TargetLemmas.{target_is_word, target_is_read}
use Rattle.trace_roundtrip.proofs.names.targets_are_read.Goals as goal

pub returns-clause-read : goal.returns-clause-read
returns-clause-read c = λ board index fits formed small within. target_is_read board index formed small within

pub returns-clause-word : goal.returns-clause-word
returns-clause-word c = λ board index fits formed small within. (target_is_word board index fits within).word

pub returns-clause-short : goal.returns-clause-short
returns-clause-short c = λ board index fits formed small within. (target_is_word board index fits within).short

pub returns-clause-no_header : goal.returns-clause-no_header
returns-clause-no_header c = λ board index fits formed small within. (target_is_word board index fits within).no_header
