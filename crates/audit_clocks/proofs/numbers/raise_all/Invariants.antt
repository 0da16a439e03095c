use Rattle.audit_clocks.proofs.RowLemmas.{Raised}
use Rattle.audit_clocks.proofs.numbers.raise_all.Given as goal

-- those of the authors so far
abbrev pub invariant-loop-author : goal.invariant-loop-author
invariant-loop-author l = Raised l.start l.op l.initial.counts.items l.counts.items l.author
