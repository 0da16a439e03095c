use Rattle.std.proofs.Common.{length}
use Rattle.trace_reader.proofs.lines.cut.+first_word.Given as goal

abbrev pub decreases-first_word : goal.decreases-first_word
decreases-first_word l = length l.line.now
