use Rattle.std.proofs.Common.{sym}
use Rattle.trace_reader.proofs.lines.CutLemmas.{first_here, first_last}
use Rattle.trace_reader.proofs.lines.cut.+first_word.Goals as goal

pub returns-else-is_empty : goal.returns-else-is_empty
returns-else-is_empty t c = sym (first_here c.args.line.now c.in-Some.piece.now c.is_empty.result c.in-Some.ensures.0 c.in-Some.ensures.1 c.is_empty.ensures c.if-is_empty.false)

pub returns-else-is_empty-2 : goal.returns-else-is_empty-2
returns-else-is_empty-2 t c = sym (first_last c.args.line.now c.is_empty-in-None.result c.in-None.ensures c.is_empty-in-None.ensures c.if-is_empty-2.false)
