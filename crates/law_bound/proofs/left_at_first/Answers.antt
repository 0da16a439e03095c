use Rattle.law_bound.proofs.BeginsLemmas.{left-begins, Begins-formed}
use Rattle.law_bound.proofs.left_at_first.Goals as goal

pub returns-clause-begins : goal.returns-clause-begins
returns-clause-begins c = left-begins

pub returns-clause-well_formed : goal.returns-clause-well_formed
returns-clause-well_formed c = λ board formed. left-begins board (Begins-formed board formed)
