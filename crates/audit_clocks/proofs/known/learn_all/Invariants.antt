use Rattle.audit_clocks.proofs.RowLemmas.{Learned}
use Rattle.audit_clocks.proofs.known.learn_all.Given as goal

-- those of the authors so far
abbrev pub invariant-loop-author : goal.invariant-loop-author
invariant-loop-author l = Learned l.told l.op l.initial.rows.items l.rows.items l.author
