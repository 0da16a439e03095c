use Rattle.std.proofs.Common.{length}
use Rattle.trace_reader.proofs.lines.cut.+second_word.Given as goal

abbrev pub decreases-second_word : goal.decreases-second_word
decreases-second_word l = length l.line.now
